use Rattle.strain.specs.Columns.{Columns}
use Rattle.inverse.specs.Inverse.{solved_at}
use Rattle.inverse.specs.Factors.{going}
use Rattle.inverse.proofs.Elimination.solve.Given as goal

abbrev pub invariant-loop-c : goal.invariant-loop-c
invariant-loop-c l = Columns (solved_at (going l.self.m l.self.rows)) l.r l.c
