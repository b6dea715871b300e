-- Parts of a corotational row's update and of its solve, with what each reads of the record. Definitions only. Assumes nothing.
use Rattle.std.specs.Prelude.{ℕ, Bool, List, Float}
use Rattle.vector.specs.declared.Vec3.{Vec3}
use Rattle.vector.specs.declared.Mat3.{Mat3}
use Rattle.vector.specs.declared.Four.{Four}
use Rattle.places.specs.Places.{Holds}
use Rattle.records.specs.Layout as at
use Rattle.cell.specs.Cell.{is_strained}
use Rattle.corotational.specs.Corotational.{update_volume, strain_step}
use Rattle.corotational.specs.Row.{update}
use Rattle.corotational.specs.declared.Volume.{Volume}
use Rattle.floats.specs.Fields.{four_at, mat3_at, masses_at, floats_at}
use Rattle.stored.specs.Read.{compliance_of, springs_of, corotational_of}
use Rattle.stored.specs.Put.{put_flag, put_pose, put_volume}
use Rattle.corotational_record.specs.declared.Update.{Update}

-- the volumetric row, with f the deformation gradient
unfoldable pub volume_anew : Mat3 → Bool → Mat3 → List ℕ → Volume
volume_anew rot inverted f b =
    update_volume (mat3_at b at.elastic_inv_rest_matrix) (four_at b at.elastic_coeffs) (masses_at b at.row_im) (springs_of b) (compliance_of b).inv_a rot inverted f

-- what an update assigns
abbrev pub update_anew : Holds → List ℕ → Update
update_anew held b = let r = update (corotational_of b) held in record { pose = r.pose; volume = r.volume }

-- it put into the record
abbrev pub put_update : Update → Float → List ℕ → List ℕ
put_update u least b = put_flag (put_volume u.volume (put_pose u.pose b)) at.row_strained (is_strained u.pose.strain least)

-- what the strain rows would take if there were no volumetric row
unfoldable pub strain_step_at : Mat3 → Four Vec3 → List Float → Holds → List ℕ → List Float
strain_step_at rot coeffs impulse vel b =
    strain_step rot coeffs (floats_at 6 b at.elastic_strain) (compliance_of b).inv_a (floats_at 6 b at.coro_erp_strain) (floats_at 6 b at.coro_cfm_strain) impulse vel
