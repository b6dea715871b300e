-- `strain::mat_mul` meets its contract. A column a turn. Assumes nothing.
use Rattle.std.proofs.Common.{rules}
use Rattle.strain.specs.Columns.{columns_none, columns_more, columns_all}
use Rattle.strain.specs.Matrix.{mat_vec, mat_mul}
use Rattle.strain.proofs.mat_mul.Goals as goal

pub loop-j-init : goal.loop-j-init
loop-j-init c = columns_none (search rules)

pub loop-j-preserved : goal.loop-j-preserved
unfolding mat_vec
loop-j-preserved c = columns_more c.loop-j.invariant (search rules) c.set_column.ensures (rw c.column.ensures at c.mat_vec.ensures)

pub returns : goal.returns
unfolding mat_mul
returns c = columns_all c.loop-j.invariant (search rules)
