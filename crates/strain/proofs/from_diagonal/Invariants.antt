-- Six stores, one a turn.
use Rattle.std.specs.Prelude.{◌*◌, set}
use Rattle.loops.specs.Loops.{Ran}
use Rattle.real.specs.Float.{at}
use Rattle.strain.proofs.from_diagonal.Given as goal

abbrev pub invariant-loop-i : goal.invariant-loop-i
invariant-loop-i l = Ran 6 (λ i m. set m (7 * i) (at l.d i)) l.initial.r l.i l.r
