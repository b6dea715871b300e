use Rattle.std.specs.Prelude.{◌-◌}
use Rattle.loops.specs.Loops.{Ran}
use Rattle.inverse.specs.Inverse.{backward_turn}
use Rattle.inverse.proofs.backward_at.Given as goal

abbrev pub invariant-loop-k : goal.invariant-loop-k
invariant-loop-k l = Ran (5 - l.i) (backward_turn l.m l.x l.i) l.initial.rest (6 - l.k) l.rest
