-- A matrix that a loop makes column by column is the one that `from_fn` says. Assumes nothing.
use Rattle.std.specs.Prelude.{ℕ, ◌+◌, ◌*◌, ◌/◌, ◌%◌, ◌<◌, ◌≤◌, ◌≡◌, refl, List, length, set, Float}
use Rattle.std.proofs.Common.{ap, ◌∙◌, arith}
use Rattle.std.specs.Float.{nan}
use Rattle.loops.specs.Fill.{tabulate, Filled, filled_none, filled_column, filled_all}
use Rattle.real.specs.Float.{at}
use Rattle.strain.specs.Matrix.{from_fn}

-- column j of `from_fn f`
abbrev pub column_of : (ℕ → ℕ → Float) → ℕ → List Float
column_of f j = tabulate 6 (λ i. f i j)

-- column j of m becomes c
abbrev pub set_column : List Float → ℕ → List Float → List Float
set_column m j c = set (set (set (set (set (set m (j * 6) (at c 0)) (j * 6 + 1) (at c 1)) (j * 6 + 2) (at c 2)) (j * 6 + 3) (at c 3)) (j * 6 + 4) (at c 4)) (j * 6 + 5) (at c 5)

-- element k of `from_fn f`
abbrev pub cell : (ℕ → ℕ → Float) → ℕ → Float
cell f k = f (k % 6) (k / 6)

-- the columns of m before j are those of `from_fn f`
pub record Columns (f : ℕ → ℕ → Float) (m : List Float) (j : ℕ) : Type 0 where
  pub low : j ≤ 6
  pub filled : Filled nan (cell f) 36 m (j * 6)

at_cell : (f : ℕ → ℕ → Float) (j t : ℕ) → t < 6 → f t j ≡ cell f (j * 6 + t)
at_cell f j t h =
    let r : (j * 6 + t) % 6 ≡ t = omega arith in
    let q : (j * 6 + t) / 6 ≡ j = omega arith in
    rw (r, q) refl

module _ {f : ℕ → ℕ → Float} where
  pub columns_none : {m : List Float} → length m ≡ 36 → Columns f m 0
  columns_none h = record { low = omega arith; filled = filled_none h }

  pub columns_more : {m n c : List Float} {j : ℕ} → Columns f m j → j < 6 → n ≡ set_column m j c → c ≡ column_of f j → Columns f n (j + 1)
  columns_more {m} {n} {c} {j} w h e q =
      let z : j * 6 + 0 ≡ j * 6 = omega arith in
      let t : (i : ℕ) → at c i ≡ at (column_of f j) i = λ i. ap (λ (l : List Float). at l i) q in
      record {
        low = omega arith;
        filled = rw e (filled_column j w.filled (omega arith)
            (t 0 ∙ rw z at (at_cell f j 0 (omega arith)))
            (t 1 ∙ at_cell f j 1 (omega arith))
            (t 2 ∙ at_cell f j 2 (omega arith))
            (t 3 ∙ at_cell f j 3 (omega arith))
            (t 4 ∙ at_cell f j 4 (omega arith))
            (t 5 ∙ at_cell f j 5 (omega arith)));
      }

  pub columns_all : {m : List Float} {j : ℕ} → Columns f m j → 6 ≤ j → m ≡ from_fn f
  columns_all w h = filled_all w.filled (omega arith)
