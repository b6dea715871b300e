-- The volume of a cell of four particles, its gradients, and the cell's edges, as soft_body_geometry.rs has them. Definitions only. Assumes nothing.
use Rattle.std.specs.Prelude.{Float}
use Rattle.real.specs.Float.{◌⊘◌, f6}
use Rattle.vector.specs.Vector.{add, sub, neg, divide, dot, cross}
use Rattle.vector.specs.declared.Vec3.{Vec3}
use Rattle.vector.specs.declared.Mat3.{Mat3}
use Rattle.vector.specs.declared.Four.{Four}

-- the edges from particle 0, as columns
unfoldable pub cell_edge_matrix : Four Vec3 → Mat3
cell_edge_matrix x = record { x = sub x.b x.a; y = sub x.c x.a; z = sub x.d x.a }

unfoldable pub cell_volume : Four Vec3 → Float
cell_volume x = dot (sub x.b x.a) (cross (sub x.c x.a) (sub x.d x.a)) ⊘ f6

-- the gradient of the volume by a particle, from the edges to the next two
unfoldable pub face_gradient : Vec3 → Vec3 → Vec3
face_gradient u v = divide (cross u v) f6

unfoldable pub cell_volume_gradients : Four Vec3 → Four Vec3
cell_volume_gradients x =
    let a = sub x.b x.a in
    let b = sub x.c x.a in
    let c = sub x.d x.a in
    let g1 = face_gradient b c in
    let g2 = face_gradient c a in
    let g3 = face_gradient a b in
    record { a = neg (add (add g1 g2) g3); b = g1; c = g2; d = g3 }
