-- The angle between two triangles that share an edge, and its gradients: `dihedral_gradients` of soft_scalar_constraint.rs. Definitions only. Assumes nothing.
use Rattle.std.specs.Prelude.{Bool, cond, ◌||◌, Float}
use Rattle.std.specs.Float.{binary32}
use Rattle.std.specs.Float.Ieee.{lt, neg, of_bits}
use Rattle.real.specs.Float.{◌⊖◌, ◌⊗◌, ◌⊘◌, f0, f1}
use Rattle.real.specs.Acos.{acos}
use Rattle.real.specs.Real.{clamp}
use Rattle.root.specs.Root.{root_of}
use Rattle.shape.specs.Rotation.{nano}
use Rattle.vector.specs.Vector as v
use Rattle.vector.specs.declared.Vec3.{Vec3}
use Rattle.vector.specs.declared.Four.{Four}
use Rattle.gradients.specs.declared.Fold.{Fold}
use Rattle.gradients.specs.declared.Gradients.{Gradients}

-- 1.0e-6
abbrev pub micro : Float
micro = of_bits binary32 0x358637bd

unfoldable pub no_gradients : Four Vec3
no_gradients = v.splat v.zero_vector

-- the triangles (0, 1, 2) and (0, 1, 3): p1, p2 and p3 are the edges from particle 0, n1 and n2 the unit normals, l1 and l2 the lengths that the normals had
unfoldable pub fold_of : Four Vec3 → Fold
fold_of pos =
    let p1 = v.sub pos.b pos.a in
    let p2 = v.sub pos.c pos.a in
    let p3 = v.sub pos.d pos.a in
    let m1 = v.cross p1 p2 in
    let m2 = v.cross p1 p3 in
    let l1 = v.length_of m1 in
    let l2 = v.length_of m2 in
    record { p1 = p1; p2 = p2; p3 = p3; n1 = v.divide m1 l1; n2 = v.divide m2 l2; l1 = l1; l2 = l2 }

-- p × n + (m × p) d
unfoldable pub lean : Vec3 → Vec3 → Vec3 → Float → Vec3
lean p n m d = v.add (v.cross p n) (v.scale (v.cross m p) d)

-- The source's q1 to q4 are minus the gradients of d = n1·n2 at the particles 0 to 3. q2 by itself
unfoldable pub q2 : Fold → Float → Vec3
q2 f d = v.sub (v.divide (v.neg (lean f.p2 f.n2 f.n1 d)) f.l1) (v.divide (lean f.p3 f.n1 f.n2 d) f.l2)

-- and all four
unfoldable pub qs : Fold → Float → Four Vec3
qs f d =
    let q3 = v.divide (lean f.p1 f.n2 f.n1 d) f.l1 in
    let q4 = v.divide (lean f.p1 f.n1 f.n2 d) f.l2 in
    record { a = v.sub (v.sub (v.neg (q2 f d)) q3) q4; b = q2 f d; c = q3; d = q4 }

unfoldable pub scale_four : Four Vec3 → Float → Four Vec3
scale_four q k = record { a = v.scale q.a k; b = v.scale q.b k; c = v.scale q.c k; d = v.scale q.d k }

-- where the triangles lie flat the angle is stationary: no useful gradient, and the error all the same
unfoldable pub bent : Fold → Float → Gradients
bent f rest =
    let d = clamp (v.dot f.n1 f.n2) (neg f1) f1 in
    let sin = root_of (f1 ⊖ d ⊗ d) in
    record { grad = cond (lt sin micro) no_gradients (scale_four (qs f d) (f1 ⊘ sin)); error = acos d ⊖ rest }

-- a triangle without area
abbrev pub no_area : Fold → Bool
no_area f = lt f.l1 nano || lt f.l2 nano

-- where a triangle has no area the gradients are zero and the error is 0, not the angle less rest
unfoldable pub dihedral_gradients : Four Vec3 → Float → Gradients
dihedral_gradients pos rest =
    let f = fold_of pos in
    cond (no_area f) (record { grad = no_gradients; error = f0 }) (bent f rest)
