use Rattle.strain.specs.Columns.{Columns}
use Rattle.strain.specs.Matrix.{product_at}
use Rattle.strain.proofs.mat_mul.Given as goal

abbrev pub invariant-loop-j : goal.invariant-loop-j
invariant-loop-j l = Columns (product_at l.a l.b) l.r l.j
