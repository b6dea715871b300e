use Rattle.loops.specs.Loops.{Ran}
use Rattle.inverse.specs.Inverse.{forward_step}
use Rattle.inverse.proofs.forward.Given as goal

abbrev pub invariant-loop-i : goal.invariant-loop-i
invariant-loop-i l = Ran 6 (forward_step l.m) l.initial.x l.i l.x
