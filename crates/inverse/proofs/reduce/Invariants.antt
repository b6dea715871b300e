use Rattle.std.specs.Prelude.{◌+◌}
use Rattle.loops.specs.Between.{Went}
use Rattle.inverse.specs.Elimination.{reduce_step}
use Rattle.inverse.proofs.reduce.Given as goal

abbrev pub invariant-loop-i : goal.invariant-loop-i
invariant-loop-i l = Went (l.j + 1) 6 (reduce_step l.j l.k l.x) l.initial.m l.i l.m
