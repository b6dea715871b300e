-- The worked example of the neo-Hookean gradient. Assumes nothing.
use Rattle.std.specs.Prelude.{refl, List, [], ◌∷◌, replicate, Float}
use Rattle.std.specs.Float.Ieee as ieee
use Rattle.loops.specs.Worked.{Row, ◌gives◌, Holds}
use Rattle.real.specs.Float.{f0, f1}
use Rattle.vector.specs.Vector as v
use Rattle.vector.specs.Matrix.{identity, add_mat, scale_mat, determinant}
use Rattle.linalg.specs.Products.{cofactor}
use Rattle.cell.specs.Strain.{strain_matrix, strain_rows_dual}
use Rattle.energy.specs.Hessian.{gradient}

abbrev zeros : List Float
zeros = replicate 6 f0

-- the gradient at zero strain with `mu` = `lambda` = 1: zeros
abbrev pub worked : List Row
worked = ((gradient f1 f1 zeros).grad gives zeros) ∷ []

pub holds : Holds worked
unfolding gradient strain_matrix strain_rows_dual identity add_mat scale_mat determinant cofactor v.add v.scale v.dot v.cross ieee.add ieee.sub ieee.mul ieee.neg ieee.of_bits
holds = (refl, tt)
