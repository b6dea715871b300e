use Rattle.std.proofs.Common.{◌≡◌}
use Rattle.points.specs.Apart.{moved}
use Rattle.points.proofs.velocities.scatter.Given as goal

abbrev pub invariant-loop-i : goal.invariant-loop-i
invariant-loop-i l = l.s ≡ moved l.i l.v l.initial.s
