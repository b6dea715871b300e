-- What both elastic rows share: the update of positions, rotation and strain, the velocities in the cell's frame, and what an impulse takes from each place. As soft_elastic_constraint.rs has them. Definitions only. Assumes nothing.
use Rattle.std.specs.Prelude.{Bool, cond, List, Float, Some, None}
use Rattle.std.specs.Float.Ieee.{lt, neg}
use Rattle.loops.specs.Fill.{tabulate}
use Rattle.real.specs.Float.{◌⊗◌, at, f0, f1}
use Rattle.real.specs.Real.{max, clamp}
use Rattle.vector.specs.Vector as v
use Rattle.vector.specs.Matrix.{identity, transpose, sub_mat, mul_vec, mul_mat, determinant}
use Rattle.vector.specs.Quaternion.{to_matrix}
use Rattle.vector.specs.declared.Vec3.{Vec3}
use Rattle.vector.specs.declared.Mat3.{Mat3}
use Rattle.vector.specs.declared.Quat.{Quat}
use Rattle.vector.specs.declared.Four.{Four}
use Rattle.strain.specs.Six.{scale6, any_above6}
use Rattle.shape.specs.Rotation.{extract_rotation}
use Rattle.shape.specs.Cell.{cell_edge_matrix}
use Rattle.places.specs.Places.{Held, Holds, Masses, refreshed}
use Rattle.cell.specs.Strain.{strain_rows_of, strain_tensor, outer_sum}
use Rattle.cell.specs.declared.Cell.{Cell}
use Rattle.cell.specs.declared.Impulses.{Impulses}
use Rattle.cell.specs.declared.Pose.{Pose}

-- ---- update

-- F = Ds · Dm⁻¹
unfoldable pub deformation_gradient : Four Vec3 → Mat3 → Mat3
deformation_gradient pos inv = mul_mat (cell_edge_matrix pos) inv

-- a determinant of 0, -0 or NaN is not inverted
unfoldable pub is_inverted : Mat3 → Bool
is_inverted f = lt (determinant f) f0

-- a cap as it counts: raised to 1 where the cell is not inverted
abbrev pub cap_of : Bool → Float → Float
cap_of inverted cap = cond inverted cap (max cap f1)

-- e drawn into -cap .. cap
unfoldable pub capped : Bool → Float → Float → Float
capped inverted e cap = let c = cap_of inverted cap in clamp e (neg c) c

unfoldable pub capped_strain : Bool → List Float → List Float → List Float
capped_strain inverted e caps = tabulate 6 (λ i. capped inverted (at e i) (at caps i))

-- sym(RᵀF) - I
unfoldable pub strain_of : Mat3 → Mat3 → List Float
strain_of rot f = strain_rows_of (sub_mat (mul_mat (transpose rot) f) identity)

-- pos is refreshed, f the deformation gradient there, and warm the rotation of the last update
unfoldable pub posed : List Float → Quat → Four Vec3 → Mat3 → Pose
posed caps warm pos f =
    let rotation = extract_rotation f warm in
    let rot = to_matrix rotation in
    let inverted = is_inverted f in
    record { pos = pos; rotation = rotation; rot_mat = rot; strain = capped_strain inverted (strain_of rot f) caps; inverted = inverted }

unfoldable pub update_pose : Cell → Pose → Holds → Pose
update_pose cell p held =
    let pos = refreshed held p.pos in
    posed cell.strain_cap p.rotation pos (deformation_gradient pos cell.inv_rest_matrix)

-- some strain is past the least
unfoldable pub is_strained : List Float → Float → Bool
is_strained e least = any_above6 e least

-- ---- solve

-- a place that is skipped counts as at rest, whatever the rotation
abbrev pub local_of : Mat3 → Held → Vec3
local_of invRot (Some x) = mul_vec invRot x
local_of invRot None = v.zero_vector

-- the velocities in the cell's frame
unfoldable pub local_velocities : Mat3 → Holds → Four Vec3
local_velocities rot vel =
    let invRot = transpose rot in
    record { a = local_of invRot vel.a; b = local_of invRot vel.b; c = local_of invRot vel.c; d = local_of invRot vel.d }

unfoldable pub strain_rates : Mat3 → Four Vec3 → Holds → List Float
strain_rates rot coeffs vel = strain_rows_of (outer_sum (local_velocities rot vel) coeffs)

-- what a place with coefficients c and inverse mass w is to lose for the strain impulses of the tensor t: (R t c) w
unfoldable pub strain_loss : Mat3 → Mat3 → Vec3 → Float → Vec3
strain_loss rot t c w = v.scale (mul_vec rot (mul_vec t c)) w

unfoldable pub strain_losses : Mat3 → Four Vec3 → Masses → List Float → Four Vec3
strain_losses rot coeffs im l =
    let t = strain_tensor l in
    record {
      a = strain_loss rot t coeffs.a im.a;
      b = strain_loss rot t coeffs.b im.b;
      c = strain_loss rot t coeffs.c im.c;
      d = strain_loss rot t coeffs.d im.d;
    }

-- the same with a volumetric impulse x along the gradient g: (R t c + g x) w
unfoldable pub volume_loss : Mat3 → Mat3 → Vec3 → Vec3 → Float → Float → Vec3
volume_loss rot t c g x w = v.scale (v.add (mul_vec rot (mul_vec t c)) (v.scale g x)) w

unfoldable pub volume_losses : Mat3 → Four Vec3 → Masses → List Float → Four Vec3 → Float → Four Vec3
volume_losses rot coeffs im l grad x =
    let t = strain_tensor l in
    record {
      a = volume_loss rot t coeffs.a grad.a x im.a;
      b = volume_loss rot t coeffs.b grad.b x im.b;
      c = volume_loss rot t coeffs.c grad.c x im.c;
      d = volume_loss rot t coeffs.d grad.d x im.d;
    }

-- ---- warm start: both impulses times the coefficient

abbrev pub scaled : Impulses → Float → Impulses
scaled l k = record { strain = scale6 l.strain k; vol = l.vol ⊗ k }
