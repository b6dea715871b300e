use Rattle.loops.specs.Loops.{Ran}
use Rattle.inverse.specs.Inverse.{forward_turn}
use Rattle.inverse.proofs.forward_at.Given as goal

abbrev pub invariant-loop-k : goal.invariant-loop-k
invariant-loop-k l = Ran l.i (forward_turn l.m l.x l.i) l.initial.acc l.k l.acc
