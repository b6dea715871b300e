-- `sweep::row_at` meets its contract. By its kind or by its length, the part is the record. Assumes nothing.
use Rattle.std.proofs.Common.{arith}
use Rattle.sweep.proofs.Apart.{scalar_said, row_found}
use Rattle.sweep.proofs.row_at.Goals as goal

pub slice_bounds-result-end : goal.slice_bounds-result-end
slice_bounds-result-end c = omega (arith, c.requires.whole, c.requires.scalar (scalar_said _ _ c.requires.kind c.of.ensures c.in-Scalar.is))

pub returns-in-Scalar : goal.returns-in-Scalar
returns-in-Scalar c = row_found _ _ c.requires.whole (c.requires.scalar (scalar_said _ _ c.requires.kind c.of.ensures c.in-Scalar.is))
