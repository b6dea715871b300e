-- The inverse of a 6x6 matrix by elimination with partial pivoting; the words in quotation marks are the rule, sentence by sentence. Definitions only. Assumes nothing.
use Rattle.std.specs.Prelude.{ℕ, ◌+◌, ◌-◌, Bool, true, false, cond, List, [], ◌∷◌, get_or, set, replicate, ltb, eqb, Float}
use Rattle.std.specs.Float.Ieee.{lt, eq}
use Rattle.loops.specs.Fill.{tabulate}
use Rattle.loops.specs.Loops.{up_to}
use Rattle.loops.specs.Between.{between}
use Rattle.real.specs.Float.{◌⊖◌, ◌⊗◌, ◌⊘◌, at, f0, f1}
use Rattle.real.specs.Real.{abs}
use Rattle.strain.specs.Matrix.{entry, from_fn}

-- "for each column the first entry of largest magnitude on or below the diagonal (later replaces only if greater)"
abbrev pub larger : List Float → ℕ → ℕ → ℕ → ℕ
larger m j i best = cond (lt (abs (entry m best j)) (abs (entry m i j))) i best

unfoldable pub pivot_row : List Float → ℕ → ℕ
pivot_row m j = between (j + 1) 6 (larger m j) j

-- ".. is swapped up": row i of the matrix in which rows p and j are exchanged is this row of m
abbrev pub exchange : ℕ → ℕ → ℕ → ℕ
exchange p j i = cond (eqb i p) j (cond (eqb i j) p i)

unfoldable pub swap_rows : List Float → ℕ → ℕ → List Float
swap_rows m p j = from_fn (λ i k. entry m (exchange p j i) k)

-- "Multiplier = entry·(1/pivot); row less multiplier·pivot row": entry (i, k) once column j is eliminated, with inv = 1/pivot. The multipliers stay below the pivot.
abbrev pub eliminate_at : List Float → ℕ → Float → ℕ → ℕ → Float
eliminate_at m j inv i k =
    cond (ltb j i)
    (cond (eqb k j)
    (entry m i j ⊗ inv)
    (cond (ltb j k) (entry m i k ⊖ entry m i j ⊗ inv ⊗ entry m j k) (entry m i k)))
    (entry m i k)

unfoldable pub eliminate : List Float → ℕ → Float → List Float
eliminate m j inv = from_fn (eliminate_at m j inv)

-- what elimination holds: the matrix, the number that each of its rows had at first, and whether no pivot so far was zero
pub record Factors : Type 0 where
  pub m : List Float
  pub rows : List ℕ
  pub ok : Bool

abbrev pub swap_places : List ℕ → ℕ → ℕ → List ℕ
swap_places rows p j = set (set rows j (get_or rows p 0)) p (get_or rows j 0)

-- column j, with p the pivot's row and w the matrix after the swap; nothing follows a zero pivot
unfoldable pub factor_column : ℕ → Factors → Factors
factor_column j s =
    let p = pivot_row s.m j in
    let w = swap_rows s.m p j in
    cond s.ok
    (cond (eq (entry w j j) f0)
    (record { m = w; rows = s.rows; ok = false })
    (record { m = eliminate w j (f1 ⊘ entry w j j); rows = swap_places s.rows p j; ok = true }))
    s

unfoldable pub factored : List Float → Factors
factored m = up_to 6 factor_column (record { m = m; rows = 0 ∷ 1 ∷ 2 ∷ 3 ∷ 4 ∷ 5 ∷ []; ok = true })

-- "Each permuted unit column": column c of the identity with its rows where elimination took them
unfoldable pub unit : List ℕ → ℕ → List Float
unit rows c = tabulate 6 (λ i. cond (eqb (get_or rows i 0) c) f1 f0)

-- ".. is then solved forward", "one product subtracted per step, by rising index"
abbrev pub forward_turn : List Float → List Float → ℕ → ℕ → Float → Float
forward_turn m x i k acc = acc ⊖ entry m i k ⊗ at x k

unfoldable pub forward_at : List Float → List Float → ℕ → Float
forward_at m x i = up_to i (forward_turn m x i) (at x i)

abbrev pub forward_step : List Float → ℕ → List Float → List Float
forward_step m i x = set x i (forward_at m x i)

unfoldable pub forward : List Float → List Float → List Float
forward m x = up_to 6 (forward_step m) x

-- "and backward dividing by the pivot", by falling index: turn u is for index 5 - u
abbrev pub backward_turn : List Float → List Float → ℕ → ℕ → Float → Float
backward_turn m x i u acc = acc ⊖ entry m i (5 - u) ⊗ at x (5 - u)

unfoldable pub backward_at : List Float → List Float → ℕ → Float
backward_at m x i = up_to (5 - i) (backward_turn m x i) (at x i) ⊘ entry m i i

abbrev pub backward_step : List Float → ℕ → List Float → List Float
backward_step m u x = set x (5 - u) (backward_at m x (5 - u))

unfoldable pub backward : List Float → List Float → List Float
backward m x = up_to 6 (backward_step m) x

unfoldable pub solve_column : Factors → ℕ → List Float
solve_column s c = backward s.m (forward s.m (unit s.rows c))

abbrev pub solved_at : Factors → ℕ → ℕ → Float
solved_at s i c = at (solve_column s c) i

-- whether no pivot is zero
unfoldable pub invertible : List Float → Bool
invertible m = (factored m).ok

-- "a zero pivot makes the whole inverse zeros"
unfoldable pub try_inverse : List Float → List Float
try_inverse m = cond (invertible m) (from_fn (solved_at (factored m))) (replicate 36 f0)
