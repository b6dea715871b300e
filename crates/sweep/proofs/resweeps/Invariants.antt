use Rattle.std.proofs.Common.{length}
use Rattle.points.specs.Apart.{moved}
use Rattle.sweep.specs.Joined.{joined}
use Rattle.sweep.proofs.Turns.{Again}
use Rattle.sweep.proofs.resweeps.Given as goal

abbrev pub invariant-loop-turn : goal.invariant-loop-turn
invariant-loop-turn l = Again l.k (length l.initial.v) l.r (joined l.initial.v l.initial.s) l._turn (moved (length l.initial.v) l.v l.s)
