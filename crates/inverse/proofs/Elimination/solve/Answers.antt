-- `inverse::Elimination::solve` meets its contract. A column a turn. Assumes nothing.
use Rattle.std.proofs.Common.{rules}
use Rattle.strain.specs.Columns.{columns_none, columns_more, columns_all}
use Rattle.inverse.specs.Factors.{solved_column}
use Rattle.inverse.proofs.Elimination.solve.Goals as goal

pub loop-c-init : goal.loop-c-init
loop-c-init c = columns_none (search rules)

pub loop-c-preserved : goal.loop-c-preserved
loop-c-preserved c = columns_more c.loop-c.invariant (search rules) c.set_column.ensures (solved_column _ _ c.solve_column.ensures)

pub returns : goal.returns
returns c = columns_all c.loop-c.invariant (search rules)
