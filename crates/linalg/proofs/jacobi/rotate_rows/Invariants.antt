use Rattle.loops.specs.Loops.{Ran}
use Rattle.linalg.specs.Eigen.{row_step}
use Rattle.linalg.proofs.jacobi.rotate_rows.Given as goal

abbrev pub invariant-loop-k : goal.invariant-loop-k
invariant-loop-k g l = Ran 3 (row_step g.row.P g.row.Q l.g.c l.g.s) l.initial.a l.k l.a
