-- `clash::mark_row` meets its contract. Assumes nothing.
use Rattle.std.proofs.Common.{arith}
use Rattle.clash.proofs.Rows.{none_yet, one_more, all_marked}
use Rattle.clash.proofs.mark_row.Goals as goal

pub loop-id-init : goal.loop-id-init
loop-id-init c = none_yet _ _ _

pub loop-id-preserved : goal.loop-id-preserved
loop-id-preserved c = one_more c.loop-id.invariant (omega arith) c.mark_one.ensures

pub returns-after-loop-id : goal.returns-after-loop-id
returns-after-loop-id c = all_marked _ c.if-q-ne-OVERFLOW.true c.loop-id.invariant (omega arith)
