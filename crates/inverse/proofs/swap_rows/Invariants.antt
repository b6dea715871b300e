use Rattle.loops.specs.Loops.{Ran}
use Rattle.inverse.specs.Pivot.{swap_step}
use Rattle.inverse.proofs.swap_rows.Given as goal

abbrev pub invariant-loop-k : goal.invariant-loop-k
invariant-loop-k l = Ran 6 (swap_step l.p l.j) l.initial.m l.k l.m
