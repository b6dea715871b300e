-- 6x6 matrices, lists of 36 floats column by column. Definitions only. Assumes nothing.
use Rattle.std.specs.Prelude.{ℕ, ◌+◌, ◌*◌, ◌/◌, ◌%◌, cond, List, [], ◌∷◌, eqb, Float}
use Rattle.loops.specs.Fill.{tabulate}
use Rattle.real.specs.Float.{◌⊕◌, ◌⊗◌, at, f0, f1}
use Rattle.strain.specs.Parts.{add, scale}
use Rattle.strain.specs.Six.{dot6}

-- the entry in row i and column j
abbrev pub entry : List Float → ℕ → ℕ → Float
entry m i j = at m (j * 6 + i)

-- nalgebra's `from_fn`: the matrix with f i j in row i and column j
abbrev pub from_fn : (ℕ → ℕ → Float) → List Float
from_fn f = tabulate 36 (λ k. f (k % 6) (k / 6))

unfoldable pub row : List Float → ℕ → List Float
row m i = at m i ∷ at m (i + 6) ∷ at m (i + 12) ∷ at m (i + 18) ∷ at m (i + 24) ∷ at m (i + 30) ∷ []

unfoldable pub column : List Float → ℕ → List Float
column m j = at m (j * 6) ∷ at m (j * 6 + 1) ∷ at m (j * 6 + 2) ∷ at m (j * 6 + 3) ∷ at m (j * 6 + 4) ∷ at m (j * 6 + 5) ∷ []

-- a matrix times a six-vector
unfoldable pub mat_vec : List Float → List Float → List Float
mat_vec m v = tabulate 6 (λ i. dot6 (row m i) v)

abbrev pub product_at : List Float → List Float → ℕ → ℕ → Float
product_at a b i j = dot6 (row a i) (column b j)

unfoldable pub mat_mul : List Float → List Float → List Float
mat_mul a b = from_fn (product_at a b)

-- entry (i, j) becomes (factor · wj) · wi + entry
abbrev pub ger_at : Float → List Float → List Float → ℕ → ℕ → Float
ger_at factor w m i j = factor ⊗ at w j ⊗ at w i ⊕ entry m i j

unfoldable pub ger : Float → List Float → List Float → List Float
ger factor w m = from_fn (ger_at factor w m)

unfoldable pub from_diagonal : List Float → List Float
from_diagonal d = from_fn (λ i j. cond (eqb i j) (at d i) f0)

unfoldable pub identity6 : List Float
identity6 = from_fn (λ i j. cond (eqb i j) f1 f0)

abbrev pub add36 : List Float → List Float → List Float
add36 = add 36

abbrev pub scale36 : List Float → Float → List Float
scale36 = scale 36
