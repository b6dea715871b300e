use Rattle.points.specs.Apart.{Apart}
use Rattle.points.proofs.velocities.gather.Given as goal

abbrev pub invariant-loop-i : goal.invariant-loop-i
invariant-loop-i l = Apart l.i l.s l.v
