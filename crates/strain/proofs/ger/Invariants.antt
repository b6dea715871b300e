use Rattle.strain.specs.Columns.{Columns}
use Rattle.strain.specs.Matrix.{ger_at}
use Rattle.strain.proofs.ger.Given as goal

abbrev pub invariant-loop-j : goal.invariant-loop-j
invariant-loop-j l = Columns (ger_at l.factor l.w l.m) l.r l.j
