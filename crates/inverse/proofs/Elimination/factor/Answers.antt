-- `inverse::Elimination::factor` meets its contract. The loop is the definition's; nothing follows a zero pivot. Assumes nothing.
use Rattle.std.specs.Prelude.{◌≡◌, false, is_ok}
use Rattle.std.proofs.Common.{rules, ap}
use Rattle.loops.specs.Loops.{ran_none, ran_more, ran_all}
use Rattle.inverse.specs.Factors.{factor_none, factor_some}
use Rattle.inverse.proofs.Elimination.factor.Goals as goal

pub loop-j-init : goal.loop-j-init
loop-j-init c = ran_none

pub returns-in_err-eliminate_column : goal.returns-in_err-eliminate_column
returns-in_err-eliminate_column c =
    let failed : is_ok c.from_residual.result ≡ false = search rules in
    rw failed (factor_none _ _ (search rules) c.loop-j.invariant.same (ap is_ok c.in_err-eliminate_column.was) c.eliminate_column.ensures)

pub loop-j-preserved : goal.loop-j-preserved
loop-j-preserved c = ran_more c.loop-j.invariant (search rules) (factor_some (ap is_ok c.in_ok-eliminate_column.was) c.eliminate_column.ensures)

pub returns : goal.returns
returns c = ran_all c.loop-j.invariant (search rules)
