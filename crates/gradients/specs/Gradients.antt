-- The value and the gradients of each type of scalar row: `compute_gradients` of soft_scalar_constraint.rs. Definitions only. Assumes nothing.
use Rattle.std.specs.Prelude.{ℕ, cond, eqb, Float}
use Rattle.std.specs.Float.Ieee.{lt}
use Rattle.real.specs.Float.{◌⊖◌, f0, f1}
use Rattle.vector.specs.Vector as v
use Rattle.vector.specs.declared.Vec3.{Vec3}
use Rattle.vector.specs.declared.Four.{Four}
use Rattle.shape.specs.Rotation.{nano}
use Rattle.shape.specs.Cell.{cell_volume, cell_volume_gradients}
use Rattle.gradients.specs.Dihedral.{dihedral_gradients}
use Rattle.gradients.specs.declared.Gradients.{Gradients}

unfoldable pub unit_x : Vec3
unit_x = record { x = f1; y = f0; z = f0 }

-- |x1 - x0| - rest. The gradients of the third and the fourth place are not assigned
unfoldable pub distance_gradients : Four Vec3 → Four Vec3 → Float → Gradients
distance_gradients pos grad rest =
    let d = v.sub pos.b pos.a in
    let len = v.length_of d in
    let n = cond (lt nano len) (v.divide d len) unit_x in
    record { grad = record { a = v.neg n; b = n; c = grad.c; d = grad.d }; error = len ⊖ rest }

-- the signed volume less rest
unfoldable pub volume_gradients : Four Vec3 → Float → Gradients
volume_gradients pos rest = record { grad = cell_volume_gradients pos; error = cell_volume pos ⊖ rest }

-- by the type: 0 distance, 1 dihedral, 2 cell volume. A record that is accepted has no other number; here any other counts as 2
unfoldable pub compute_gradients : ℕ → Four Vec3 → Four Vec3 → Float → Gradients
compute_gradients kind pos grad rest =
    cond (eqb kind 0) (distance_gradients pos grad rest) (cond (eqb kind 1) (dihedral_gradients pos rest) (volume_gradients pos rest))
