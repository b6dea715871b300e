-- `symmetric_eigen` of soft_element_linalg.rs: cyclic Jacobi on a matrix that is a list of three rows. Definitions only. Assumes nothing.
use Rattle.std.specs.Prelude.{ℕ, Bool, cond, List, [], ◌∷◌, get_or, set, Float}
use Rattle.std.specs.Float.{binary32}
use Rattle.std.specs.Float.Ieee.{le, eq, of_bits}
use Rattle.loops.specs.Loops.{up_to, while_up_to}
use Rattle.root.specs.Root.{root_of}
use Rattle.real.specs.Float.{◌⊕◌, ◌⊖◌, ◌⊗◌, ◌⊘◌, at, f0, f1, f2, f4}
use Rattle.real.specs.Real.{signum}
use Rattle.vector.specs.declared.Mat3.{Mat3}
use Rattle.linalg.specs.declared.Eigen.{Eigen}

-- [[f32; 3]; 3]
abbrev pub Rows : Type 0
Rows = List (List Float)

-- a[i][j]
abbrev pub entry : Rows → ℕ → ℕ → Float
entry a i j = at (get_or a i []) j

-- a[i][j] = x
abbrev pub store : Rows → ℕ → ℕ → Float → Rows
store a i j x = set a i (set (get_or a i []) j x)

-- ---- when the sweeps stop

-- the f32 nearest 1.0e-8
abbrev pub tolerance : Float
tolerance = of_bits binary32 0x322bcc77

-- sums of squares from 0.0: what is off the diagonal, and what is on it
abbrev pub off : Rows → Float
off a = f0 ⊕ entry a 0 1 ⊗ entry a 0 1 ⊕ entry a 0 2 ⊗ entry a 0 2 ⊕ entry a 1 2 ⊗ entry a 1 2

abbrev pub diag : Rows → Float
diag a = f0 ⊕ entry a 0 0 ⊗ entry a 0 0 ⊕ entry a 1 1 ⊗ entry a 1 1 ⊕ entry a 2 2 ⊗ entry a 2 2

-- a tie is settled: with squares that underflow, 0 <= 0
abbrev pub settled : Rows → Bool
settled a = le (off a) (tolerance ⊗ diag a)

-- ---- the rotation that zeroes apq, d being aqq - app

-- tan φ, the smaller root
abbrev pub tangent : Float → Float → Float
tangent apq d = f2 ⊗ apq ⊘ (d ⊕ signum d ⊗ root_of (d ⊗ d ⊕ f4 ⊗ apq ⊗ apq))

-- cos φ and sin φ by t = tan φ
abbrev pub cosine : Float → Float
cosine t = f1 ⊘ root_of (f1 ⊕ t ⊗ t)

abbrev pub sine : Float → Float
sine t = t ⊗ cosine t

-- row k: its entries p and q become c * akp - s * akq and s * akp + c * akq
abbrev pub column_step : ℕ → ℕ → Float → Float → ℕ → Rows → Rows
column_step p q c s k a =
    store (store a k p (c ⊗ entry a k p ⊖ s ⊗ entry a k q)) k q (s ⊗ entry a k p ⊕ c ⊗ entry a k q)

-- the columns p and q, row after row
unfoldable pub rotate_columns : ℕ → ℕ → Float → Float → Rows → Rows
rotate_columns p q c s a = up_to 3 (column_step p q c s) a

-- column k: its entries p and q become c * apk - s * aqk and s * apk + c * aqk
abbrev pub row_step : ℕ → ℕ → Float → Float → ℕ → Rows → Rows
row_step p q c s k a =
    store (store a p k (c ⊗ entry a p k ⊖ s ⊗ entry a q k)) q k (s ⊗ entry a p k ⊕ c ⊗ entry a q k)

-- the rows p and q, column after column
unfoldable pub rotate_rows : ℕ → ℕ → Float → Float → Rows → Rows
rotate_rows p q c s a = up_to 3 (row_step p q c s) a

-- ---- the sweeps

-- the matrix and its vectors
pub record State : Type 0 where
  pub a : Rows
  pub v : Rows

-- A ← Jᵀ A J on the rows and columns p and q, V ← V J
abbrev pub rotate : ℕ → ℕ → Float → Float → State → State
rotate p q c s e = record { a = rotate_rows p q c s (rotate_columns p q c s e.a); v = rotate_columns p q c s e.v }

-- the pair p, q: nothing is done where apq is zero
unfoldable pub turn : ℕ → ℕ → State → State
turn p q e =
    let apq = entry e.a p q in
    let t = tangent apq (entry e.a q q ⊖ entry e.a p p) in
    cond (eq apq f0) e (rotate p q (cosine t) (sine t) e)

-- every pair with p below q, in this order
unfoldable pub sweep : State → State
sweep e = turn 1 2 (turn 0 2 (turn 0 1 e))

-- at most eight, and none from a settled matrix on
unfoldable pub sweeps : State → State
sweeps e = while_up_to 8 (λ x. settled x.a) sweep e

-- row i, column j, of a matrix that is held by columns
abbrev pub rows_of : Mat3 → Rows
rows_of m =
    (m.x.x ∷ m.y.x ∷ m.z.x ∷ [])
    ∷ (m.x.y ∷ m.y.y ∷ m.z.y ∷ [])
    ∷ (m.x.z ∷ m.y.z ∷ m.z.z ∷ [])
    ∷ []

abbrev pub identity : Rows
identity = (f1 ∷ f0 ∷ f0 ∷ []) ∷ (f0 ∷ f1 ∷ f0 ∷ []) ∷ (f0 ∷ f0 ∷ f1 ∷ []) ∷ []

-- the values on the diagonal; `v[i][k]` is component i of vector k
abbrev pub eigen_of : State → Eigen
eigen_of e =
    record {
      values = record { x = entry e.a 0 0; y = entry e.a 1 1; z = entry e.a 2 2 };
      vectors =
          record {
            x = record { x = entry e.v 0 0; y = entry e.v 1 0; z = entry e.v 2 0 };
            y = record { x = entry e.v 0 1; y = entry e.v 1 1; z = entry e.v 2 1 };
            z = record { x = entry e.v 0 2; y = entry e.v 1 2; z = entry e.v 2 2 };
          };
    }

unfoldable pub symmetric_eigen : Mat3 → Eigen
symmetric_eigen m = eigen_of (sweeps (record { a = rows_of m; v = identity }))
