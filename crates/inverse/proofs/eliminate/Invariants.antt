use Rattle.std.specs.Prelude.{◌+◌}
use Rattle.loops.specs.Between.{Went}
use Rattle.inverse.specs.Elimination.{reduced}
use Rattle.inverse.proofs.eliminate.Given as goal

abbrev pub invariant-loop-k : goal.invariant-loop-k
invariant-loop-k l = Went (l.j + 1) 6 (reduced l.j) l.initial.m l.k l.m
