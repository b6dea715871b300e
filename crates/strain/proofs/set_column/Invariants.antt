-- Six stores, one a turn.
use Rattle.std.specs.Prelude.{◌+◌, ◌*◌, set}
use Rattle.loops.specs.Loops.{Ran}
use Rattle.real.specs.Float.{at}
use Rattle.strain.proofs.set_column.Given as goal

abbrev pub invariant-loop-i : goal.invariant-loop-i
invariant-loop-i l = Ran 6 (λ i m. set m (l.j * 6 + i) (at l.c i)) l.initial.m l.i l.m
