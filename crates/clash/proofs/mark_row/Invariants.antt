use Rattle.clash.proofs.Rows.{Marking}
use Rattle.clash.proofs.mark_row.Given as goal

abbrev pub invariant-loop-id : goal.invariant-loop-id
invariant-loop-id l = Marking l.q.colour l.id-index l.q.ids l.fn.marks l.marks
