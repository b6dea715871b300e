use Rattle.std.specs.Prelude.{◌+◌}
use Rattle.loops.specs.Between.{Went}
use Rattle.inverse.specs.Elimination.{scale_step}
use Rattle.inverse.proofs.scale.Given as goal

abbrev pub invariant-loop-i : goal.invariant-loop-i
invariant-loop-i l = Went (l.j + 1) 6 (scale_step l.j l.inv) l.initial.m l.i l.m
