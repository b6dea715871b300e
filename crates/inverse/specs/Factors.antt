-- What the code holds as a state of elimination, and a law for each of its returns. Assumes nothing.
use Rattle.std.specs.Prelude.{ℕ, zero, suc, ◌+◌, ◌-◌, ◌<◌, ◌≡◌, refl, Bool, true, false, List, [], ◌∷◌, set, length, replicate, Float}
use Rattle.std.proofs.Common.{sym, ap, ◌∙◌, arith, length-set, ext_get_or}
use Rattle.std.specs.Float.{nan}
use Rattle.std.specs.Float.Ieee.{eq}
use Rattle.loops.specs.Fill.{tabulate, length-tab_from, get_d_tabulate}
use Rattle.loops.specs.Loops.{up_to, cond_yes, cond_no}
use Rattle.real.specs.Float.{◌⊘◌, f0, f1}
use Rattle.strain.specs.Matrix.{entry, from_fn}
use Rattle.strain.specs.Columns.{column_of}
use Rattle.inverse.specs.Inverse.{pivot_row, swap_rows, eliminate, Factors, swap_places, factor_column, factored, unit, forward_at, forward}
use Rattle.inverse.specs.Inverse.{backward_at, backward, solve_column, solved_at, invertible, try_inverse}

abbrev pub state : List Float → List ℕ → Bool → Factors
state m rows ok = record { m = m; rows = rows; ok = ok }

-- no pivot so far was zero
abbrev pub going : List Float → List ℕ → Factors
going m rows = state m rows true

-- one column: a zero pivot, and another
pub factor_stops : (j : ℕ) (m : List Float) (rows : List ℕ) {n : List Float} {p : ℕ} → p ≡ pivot_row m j → n ≡ swap_rows m p j → eq (entry n j j) f0 ≡ true → state n rows false ≡ factor_column j (going m rows)
unfolding factor_column
factor_stops j m rows {n} {p} ep en e = rw (← ep, ← en, e) refl

pub factor_goes : (j : ℕ) (m : List Float) (rows : List ℕ) {n k : List Float} {q : List ℕ} {p : ℕ} → p ≡ pivot_row m j → n ≡ swap_rows m p j → eq (entry n j j) f0 ≡ false → k ≡ eliminate n j (f1 ⊘ entry n j j) → q ≡ swap_places rows p j → going k q ≡ factor_column j (going m rows)
unfolding factor_column
factor_goes j m rows {n} {k} {q} {p} ep en e ek eq' = rw (← ep, ← en, e, ek, eq') refl

-- nothing follows a zero pivot
still : (j : ℕ) (s : Factors) → s.ok ≡ false → factor_column j s ≡ s
unfolding factor_column
still j s e = rw e refl

stopped : (s t : Factors) (i : ℕ) → t ≡ up_to i factor_column s → t.ok ≡ false → (d : ℕ) → t ≡ up_to (d + i) factor_column s
stopped s t i e o zero = let k : 0 + i ≡ i = omega arith in rw k e
stopped s t i e o (suc d) = let k : suc d + i ≡ suc (d + i) = omega arith in rw (k, ← stopped s t i e o d) (sym (still (d + i) t o))

-- all columns: a zero pivot at column j, and a column that goes on
pub factor_none : (s : Factors) (j : ℕ) {m n : List Float} {rows q : List ℕ} {r : Bool} → j < 6 → going m rows ≡ up_to j factor_column s → r ≡ false → state n q r ≡ factor_column j (going m rows) → state n q false ≡ up_to 6 factor_column s
factor_none s j {m} {n} {rows} {q} h e o c =
    let k : (5 - j) + suc j ≡ 6 = omega arith in
    rw k at (stopped s (state n q false) (suc j) (rw o at c ∙ ap (factor_column j) e) refl (5 - j))

pub factor_some : {n : List Float} {q : List ℕ} {r : Bool} {t : Factors} → r ≡ true → state n q r ≡ t → going n q ≡ t
factor_some o c = rw o at c

abbrev pub start : List Float → Factors
start m = going m (0 ∷ 1 ∷ 2 ∷ 3 ∷ 4 ∷ 5 ∷ [])

pub factor_all : (m : List Float) {s : Factors} → s ≡ up_to 6 factor_column (start m) → s ≡ factored m
unfolding factored
factor_all m e = e

pub inverse_none : (m : List Float) {a : List Float} {rows : List ℕ} {r : Bool} → state a rows r ≡ factored m → r ≡ false → replicate 36 f0 ≡ try_inverse m
unfolding try_inverse invertible
inverse_none m e o = sym (cond_no (factored m).ok (from_fn (solved_at (factored m))) (replicate 36 f0) (ap (λ (s : Factors). s.ok) (sym e) ∙ o))

pub inverse_some : (m : List Float) {a x : List Float} {rows : List ℕ} {r : Bool} → state a rows r ≡ factored m → r ≡ true → x ≡ from_fn (solved_at (going a rows)) → x ≡ try_inverse m
unfolding try_inverse invertible
inverse_some m e o q =
    q ∙ ap (λ (s : Factors). from_fn (solved_at s)) (factor_some o e)
    ∙ sym (cond_yes (factored m).ok (from_fn (solved_at (factored m))) (replicate 36 f0) (ap (λ (s : Factors). s.ok) (sym e) ∙ o))

-- a solved column has six parts

kept : (p : ℕ → ℕ) (v : ℕ → List Float → Float) (x : List Float) (n : ℕ) → length (up_to n (λ i l. set l (p i) (v i l)) x) ≡ length x
kept p v x zero = refl
kept p v x (suc n) = length-set (up_to n (λ i l. set l (p i) (v i l)) x) (p n) (v n (up_to n (λ i l. set l (p i) (v i l)) x)) ∙ kept p v x n

length-forward : (m x : List Float) → length (forward m x) ≡ length x
unfolding forward
length-forward m x = kept (λ i. i) (λ i l. forward_at m l i) x 6

length-backward : (m x : List Float) → length (backward m x) ≡ length x
unfolding backward
length-backward m x = kept (λ u. 5 - u) (λ u l. backward_at m l (5 - u)) x 6

length-solve_column : (s : Factors) (c : ℕ) → length (solve_column s c) ≡ 6
unfolding solve_column unit
length-solve_column s c = length-backward s.m (forward s.m (unit s.rows c)) ∙ length-forward s.m (unit s.rows c)

pub solved_column : (s : Factors) (c : ℕ) {x : List Float} → x ≡ solve_column s c → x ≡ column_of (solved_at s) c
solved_column s c e =
    let n : length (solve_column s c) ≡ 6 = length-solve_column s c in
    let g : ℕ → Float = λ i. solved_at s i c in
    e ∙ ext_get_or nan (solve_column s c) (tabulate 6 g) (n ∙ sym (length-tab_from 0 6 g)) (λ i b. sym (get_d_tabulate nan 6 g i (omega arith)))
