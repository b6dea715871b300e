-- The definition of the inverse at some matrices. Assumes nothing.
use Rattle.std.specs.Prelude.{◌≡◌, refl, false, List, ◌∷◌, replicate, Float}
use Rattle.std.specs.Float.Ieee.{neg, sub, mul, div, lt, eq, of_bits}
use Rattle.loops.specs.Loops.{cond_no}
use Rattle.real.specs.Float.{f0, f1}
use Rattle.real.specs.Real.{abs}
use Rattle.strain.specs.Matrix.{from_fn, identity6}
use Rattle.inverse.specs.Inverse.{pivot_row, swap_rows, eliminate, factor_column, factored, unit, forward_at, forward, backward_at}
use Rattle.inverse.specs.Inverse.{backward, solve_column, solved_at, invertible, try_inverse}

-- the inverse of the identity is the identity
pub of_identity : try_inverse identity6 ≡ identity6
unfolding try_inverse invertible factored factor_column pivot_row swap_rows eliminate unit forward_at forward backward_at backward solve_column identity6 abs sub mul div lt eq of_bits
of_identity = refl

-- a zero pivot gives zeros
pub of_singular : (m : List Float) → invertible m ≡ false → try_inverse m ≡ replicate 36 f0
unfolding try_inverse
of_singular m e = cond_no (invertible m) (from_fn (solved_at (factored m))) (replicate 36 f0) e

-- a column of -0 has a zero pivot
pub minus_zeros : invertible (replicate 36 (neg f0)) ≡ false
unfolding invertible factored factor_column pivot_row swap_rows eliminate abs neg sub mul div lt eq of_bits
minus_zeros = refl

-- of the entries -1, 1, 1, .. the first is the pivot
pub first_of_equals : pivot_row (neg f1 ∷ replicate 35 f1) 0 ≡ 0
unfolding pivot_row abs neg lt of_bits
first_of_equals = refl
