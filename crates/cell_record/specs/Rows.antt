-- The strain rows of an elastic row's record under a rotation. Definitions only. Assumes nothing.
use Rattle.std.specs.Prelude.{ℕ, List}
use Rattle.vector.specs.declared.Mat3.{Mat3}
use Rattle.records.specs.Layout as at
use Rattle.cell.specs.declared.StrainRows.{StrainRows}
use Rattle.floats.specs.Fields.{four_at, masses_at}

unfoldable pub strain_rows : Mat3 → List ℕ → StrainRows
strain_rows rot b = record { rot = rot; coeffs = four_at b at.elastic_coeffs; im = masses_at b at.row_im }
