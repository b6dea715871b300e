-- The steps of a pose's update, with what each reads of the record: the parts of `update_pose`. Definitions only. Assumes nothing.
use Rattle.std.specs.Prelude.{ℕ, List}
use Rattle.vector.specs.declared.Vec3.{Vec3}
use Rattle.vector.specs.declared.Mat3.{Mat3}
use Rattle.vector.specs.declared.Four.{Four}
use Rattle.places.specs.Places.{Holds, refreshed}
use Rattle.records.specs.Layout as at
use Rattle.cell.specs.Cell.{deformation_gradient, posed}
use Rattle.cell.specs.declared.Pose.{Pose}
use Rattle.floats.specs.Fields.{four_at, mat3_at, quat_at, floats_at}

-- the positions, refreshed
unfoldable pub pos_anew : Holds → List ℕ → Four Vec3
pos_anew held b = refreshed held (four_at b at.row_pos)

-- the deformation gradient at pos
unfoldable pub deformation_anew : Four Vec3 → List ℕ → Mat3
deformation_anew pos b = deformation_gradient pos (mat3_at b at.elastic_inv_rest_matrix)

-- the pose at pos, with f the deformation gradient there
unfoldable pub posed_anew : Four Vec3 → Mat3 → List ℕ → Pose
posed_anew pos f b = posed (floats_at 6 b at.elastic_strain_cap) (quat_at b at.elastic_rotation) pos f
