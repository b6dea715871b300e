use Rattle.std.specs.Prelude.{◌-◌}
use Rattle.loops.specs.Loops.{Ran}
use Rattle.inverse.specs.Inverse.{backward_step}
use Rattle.inverse.proofs.backward.Given as goal

abbrev pub invariant-loop-i : goal.invariant-loop-i
invariant-loop-i l = Ran 6 (backward_step l.m) l.initial.x (6 - l.i) l.x
