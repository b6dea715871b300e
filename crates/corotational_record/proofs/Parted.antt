-- The phases of a corotational row are made of their parts, each with what it reads of the record. Assumes nothing.
use Rattle.std.proofs.Common.{◌≡◌, refl, ℕ, List, Float}
use Rattle.places.specs.Places.{Holds}
use Rattle.records.specs.Layout as at
use Rattle.cell.specs.Cell.{update_pose}
use Rattle.cell.specs.declared.Pose.{Pose}
use Rattle.cell.specs.declared.StrainRows.{StrainRows}
use Rattle.corotational.specs.Corotational.{solve_corotational, solve_rows, warmstart_corotational}
use Rattle.corotational.specs.Row.{update, warmstart, solve}
use Rattle.floats.specs.Fields.{vec3_at, four_at, four_of, mat3_at}
use Rattle.stored.specs.Read.{cell_of, pose_of, compliance_of, impulses_of, springs_of, volume_of, corotational_of}
use Rattle.cell_record.specs.Anew.{pos_anew, deformation_anew}
use Rattle.cell_record.specs.Rows.{strain_rows}
use Rattle.corotational_record.specs.Parts.{volume_anew, strain_step_at}

abbrev posed : List ℕ → Holds → Pose
posed b held = update_pose (cell_of b) (pose_of b) held

pub update_is :
    (b : List ℕ) (held : Holds)
    → update (corotational_of b) held
    ≡ record {
      cell = cell_of b;
      pose = posed b held;
      compliance = compliance_of b;
      impulses = impulses_of b;
      springs = springs_of b;
      volume = volume_anew (posed b held).rot_mat (posed b held).inverted (deformation_anew (pos_anew held b) b) b;
    }
unfolding update update_pose cell_of pose_of corotational_of pos_anew deformation_anew volume_anew
update_is b held = refl

-- the strain rows under the rotation of the last update
abbrev rows : List ℕ → StrainRows
rows b = strain_rows (mat3_at b at.elastic_rot_mat) b

pub warmstart_is :
    (b : List ℕ) (coeff : Float)
    → warmstart (corotational_of b) coeff
    ≡ warmstart_corotational (rows b).rot (rows b).coeffs (rows b).im (impulses_of b) (four_of vec3_at 12 b at.coro_grad_vol) coeff
unfolding warmstart cell_of pose_of volume_of corotational_of four_at strain_rows
warmstart_is b coeff = refl

pub solve_is :
    (b : List ℕ) (vel : Holds)
    → solve (corotational_of b) vel
    ≡ solve_rows (rows b).rot (rows b).coeffs (rows b).im (impulses_of b) (volume_of b) vel
    (strain_step_at (rows b).rot (rows b).coeffs (impulses_of b).strain vel b)
unfolding solve solve_corotational cell_of pose_of springs_of corotational_of strain_rows strain_step_at
solve_is b vel = refl
