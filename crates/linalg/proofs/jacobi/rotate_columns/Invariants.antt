use Rattle.std.specs.Prelude.{◌≡◌, length}
use Rattle.loops.specs.Loops.{Ran}
use Rattle.linalg.specs.Eigen.{column_step}
use Rattle.linalg.proofs.jacobi.rotate_columns.Given as goal

abbrev pub invariant-loop-row : goal.invariant-loop-row
invariant-loop-row g l = (Ran 3 (column_step g.row.P g.row.Q l.g.c l.g.s) l.fn.m l.row-index l.row-items) × (length l.row-items ≡ 3)
