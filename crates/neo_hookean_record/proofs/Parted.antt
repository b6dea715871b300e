-- A neo-Hookean row's warm start and solve are made of their parts, each with what it reads of the record. Assumes nothing.
use Rattle.std.proofs.Common.{◌≡◌, refl, ℕ, List, Float}
use Rattle.places.specs.Places.{Holds}
use Rattle.records.specs.Layout as at
use Rattle.cell.specs.declared.StrainRows.{StrainRows}
use Rattle.neo_hookean.specs.NeoHookean.{solve_neo_hookean, applied, warmstart_neo_hookean}
use Rattle.neo_hookean.specs.Row.{warmstart, solve}
use Rattle.floats.specs.Fields.{mat3_at}
use Rattle.stored.specs.Read.{cell_of, pose_of, impulses_of, stiffness_of, neo_hookean_of}
use Rattle.cell_record.specs.Rows.{strain_rows}
use Rattle.neo_hookean_record.specs.Parts.{strain_step_at}

-- the strain rows under the rotation of the last update
abbrev rows : List ℕ → StrainRows
rows b = strain_rows (mat3_at b at.elastic_rot_mat) b

pub warmstart_is :
    (b : List ℕ) (coeff : Float)
    → warmstart (neo_hookean_of b) coeff ≡ warmstart_neo_hookean (rows b).rot (rows b).coeffs (rows b).im (impulses_of b) coeff
unfolding warmstart cell_of pose_of neo_hookean_of strain_rows
warmstart_is b coeff = refl

pub solve_is :
    (b : List ℕ) (vel : Holds)
    → solve (neo_hookean_of b) vel
    ≡ applied (rows b).rot (rows b).coeffs (rows b).im (impulses_of b) (strain_step_at (rows b).rot (rows b).coeffs (impulses_of b).strain vel b)
unfolding solve solve_neo_hookean cell_of pose_of stiffness_of neo_hookean_of strain_rows strain_step_at
solve_is b vel = refl
