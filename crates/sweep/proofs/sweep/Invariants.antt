use Rattle.std.proofs.Common.{length}
use Rattle.points.specs.Apart.{moved}
use Rattle.sweep.specs.Joined.{joined}
use Rattle.sweep.proofs.Sweeps.{Going}
use Rattle.sweep.proofs.sweep.Given as goal

abbrev pub invariant-loop-row : goal.invariant-loop-row
invariant-loop-row l = Going l.t (length l.initial.v) l.r (joined l.initial.v l.initial.s) l._row (moved (length l.initial.v) l.v l.s) l.off
