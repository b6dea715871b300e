use Rattle.loops.specs.Loops.{Ran}
use Rattle.inverse.specs.Inverse.{factor_column}
use Rattle.inverse.specs.Factors.{going}
use Rattle.inverse.proofs.Elimination.factor.Given as goal

abbrev pub invariant-loop-j : goal.invariant-loop-j
invariant-loop-j l = Ran 6 factor_column (going l.initial.self.m l.initial.self.rows) l.j (going l.self.m l.self.rows)
