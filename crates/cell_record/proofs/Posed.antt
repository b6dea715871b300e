-- The steps of a pose's update, each with what it reads of the record, make it up. Assumes nothing.
use Rattle.std.proofs.Common.{◌≡◌, refl, ℕ, List}
use Rattle.places.specs.Places.{Holds}
use Rattle.cell.specs.Cell.{update_pose}
use Rattle.stored.specs.Read.{cell_of, pose_of}
use Rattle.cell_record.specs.Anew.{pos_anew, deformation_anew, posed_anew}

pub pose_is :
    (b : List ℕ) (held : Holds)
    → update_pose (cell_of b) (pose_of b) held ≡ posed_anew (pos_anew held b) (deformation_anew (pos_anew held b) b) b
unfolding update_pose cell_of pose_of pos_anew deformation_anew posed_anew
pose_is b held = refl
