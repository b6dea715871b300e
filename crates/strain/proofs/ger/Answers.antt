-- `strain::ger` meets its contract. A column a turn. Assumes nothing.
use Rattle.std.proofs.Common.{rules}
use Rattle.strain.specs.Columns.{columns_none, columns_more, columns_all}
use Rattle.strain.specs.Matrix.{ger}
use Rattle.strain.proofs.ger.Goals as goal

pub loop-j-init : goal.loop-j-init
loop-j-init c = columns_none (search rules)

pub loop-j-preserved : goal.loop-j-preserved
loop-j-preserved c = columns_more c.loop-j.invariant (search rules) c.set_column.ensures c.ger_column.ensures

pub returns : goal.returns
unfolding ger
returns c = columns_all c.loop-j.invariant (search rules)
