-- The search for a pivot, and the exchange of two rows, as loops. Assumes nothing.
use Rattle.std.specs.Prelude.{ℕ, ◌+◌, ◌*◌, ◌/◌, ◌%◌, ◌<◌, ◌≤◌}
use Rattle.std.specs.Prelude.{◌≡◌, Bool, true, false, cond, List, set, length}
use Rattle.std.proofs.Math.Path.{refl, sym}
use Rattle.std.proofs.Common.{◌∙◌, inl, inr, le_refl, length-set, get_or-set_same, get_or-set_other, eq-eqb, ne_eqb}
use Rattle.std.proofs.Common.{arith}
use Rattle.std.proofs.Math.Seq.{ext_get_or}
use Rattle.std.specs.Float.Ieee.{Float, nan, lt}
use Rattle.loops.specs.Fill.{tabulate, length-tab_from, get_d_tabulate}
use Rattle.loops.specs.Loops.{up_to}
use Rattle.loops.specs.Between.{Went, went_none, went_more, went_all, through, same_or_not}
use Rattle.real.specs.Real.{abs}
use Rattle.strain.specs.Matrix.{entry}
use Rattle.inverse.specs.Inverse.{larger, pivot_row, exchange, swap_rows}

-- before row i the best row so far is `best`, and `most` is the magnitude of its entry
pub record Best (m : List Float) (j i best : ℕ) (most : Float) : Type 0 where
  pub went : Went (j + 1) 6 (larger m j) j i best
  pub small : best < 6
  pub same : most ≡ abs (entry m best j)

pub best_none : (m : List Float) (j : ℕ) {most : Float} → j < 6 → most ≡ abs (entry m j j) → Best m j (j + 1) j most
best_none m j h e = record { went = went_none (omega arith); small = h; same = e }

either : {a b : ℕ} (t : Bool) → a < 6 → b < 6 → cond t a b < 6
either true p q = p
either false p q = q

its_own : (m : List Float) (j i best : ℕ) (x most : Float) (t : Bool) → x ≡ abs (entry m i j) → most ≡ abs (entry m best j) → cond t x most ≡ abs (entry m (cond t i best) j)
its_own m j i best x most true p q = p
its_own m j i best x most false p q = q

pub best_more : {m : List Float} {j i best : ℕ} {most : Float} {x : Float} {b : ℕ} {u : Float} → Best m j i best most → i < 6 → x ≡ abs (entry m i j) → b ≡ cond (lt most x) i best → u ≡ cond (lt most x) x most → Best m j (i + 1) b u
best_more {m} {j} {i} {best} {most} {x} {b} {u} w h ex eb eu =
    record {
      went = went_more w.went h (rw (← ex, ← w.same) eb);
      small = rw eb (either (lt most x) h w.small);
      same = rw eb (eu ∙ its_own m j i best x most (lt most x) ex w.same);
    }

pub best_all : {m : List Float} {j i best : ℕ} {most : Float} → Best m j i best most → 6 ≤ i → (best ≡ pivot_row m j) × (best < 6)
unfolding pivot_row
best_all w h = (went_all w.went h, w.small)

-- ---- rows p and j are exchanged, column by column

abbrev pub swap_step : ℕ → ℕ → ℕ → List Float → List Float
swap_step p j k l = set (set l (k * 6 + p) (entry l j k)) (k * 6 + j) (entry l p k)

record Swapping (m : List Float) (p j k : ℕ) (l : List Float) : Type 0 where
  long : length l ≡ 36
  done : (i q : ℕ) → i < 6 → q < k → entry l i q ≡ entry m (exchange p j i) q
  left : (i q : ℕ) → i < 6 → k ≤ q → entry l i q ≡ entry m i q

-- a place of another column stays
other_column : (l : List Float) (p j k i q : ℕ) → p < 6 → j < 6 → i < 6 → (q ≡ k → ⊥) → entry (swap_step p j k l) i q ≡ entry l i q
other_column l p j k i q hp hj hi n =
    get_or-set_other (set l (k * 6 + p) (entry l j k)) (k * 6 + j) (q * 6 + i) (entry l p k) nan (λ e. n (omega arith))
    ∙ get_or-set_other l (k * 6 + p) (q * 6 + i) (entry l j k) nan (λ e. n (omega arith))

exchange_own : (p j : ℕ) → exchange p j j ≡ p
exchange_own p j = elim (same_or_not j p) [
  | inl s ↦ rw (eq-eqb j p s) s
  | inr s ↦ rw (ne_eqb j p s, eq-eqb j j refl) refl
]

module _ (m : List Float) (p j : ℕ) (hp : p < 6) (hj : j < 6) where
  own_column : (k : ℕ) (l : List Float) → k < 6 → Swapping m p j k l → (i : ℕ) → i < 6 → entry (swap_step p j k l) i k ≡ entry m (exchange p j i) k
  own_column k l hk z i hi = elim (same_or_not i j) [
    | inl s ↦
        let b : k * 6 + j < length (set l (k * 6 + p) (entry l j k)) = rw (length-set, z.long) (omega arith) in
        rw (s, exchange_own p j) (get_or-set_same (set l (k * 6 + p) (entry l j k)) (k * 6 + j) (entry l p k) nan b ∙ z.left p k hp (le_refl k))
    | inr s ↦
        get_or-set_other (set l (k * 6 + p) (entry l j k)) (k * 6 + j) (k * 6 + i) (entry l p k) nan (λ e. s (omega arith))
        ∙ elim (same_or_not i p) [
          | inl t ↦ rw (t, eq-eqb p p refl) (get_or-set_same l (k * 6 + p) (entry l j k) nan (rw z.long (omega arith)) ∙ z.left j k hj (le_refl k))
          | inr t ↦ rw (ne_eqb i p t, ne_eqb i j s) (get_or-set_other l (k * 6 + p) (k * 6 + i) (entry l j k) nan (λ e. t (omega arith)) ∙ z.left i k hi (le_refl k))
        ]
  ]

  swap_more : (k : ℕ) (l : List Float) → k < 6 → Swapping m p j k l → Swapping m p j (k + 1) (swap_step p j k l)
  swap_more k l hk z =
      record {
        long = simp length-set z.long;
        done = λ i q hi h. elim (same_or_not q k) [
          | inl s ↦ rw s (own_column k l hk z i hi)
          | inr s ↦ other_column l p j k i q hp hj hi s ∙ z.done i q hi (omega arith)
        ];
        left = λ i q hi h. other_column l p j k i q hp hj hi (λ e. omega arith) ∙ z.left i q hi (omega arith);
      }

  pub swap_all : length m ≡ 36 → up_to 6 (swap_step p j) m ≡ swap_rows m p j
  unfolding swap_rows
  swap_all h =
      let z : Swapping m p j 6 (up_to 6 (swap_step p j) m) =
      through {a = 0} {n = 6} {f = swap_step p j} {s = m} (λ k l. Swapping m p j k l) (omega arith)
      (record { long = h; done = λ i q hi n. absurd (omega arith); left = λ i q hi n. refl })
      (λ k l a b y. swap_more k l b y)
      in
      let g : ℕ → Float = λ k. entry m (exchange p j (k % 6)) (k / 6) in
      ext_get_or nan (up_to 6 (swap_step p j) m) (tabulate 36 g) (z.long ∙ sym (length-tab_from 0 36 g))
      (λ e b.
      let s : e / 6 * 6 + e % 6 ≡ e = omega arith in
      rw s at (z.done (e % 6) (e / 6) (omega arith) (omega (arith, z.long))) ∙ sym (get_d_tabulate nan 36 g e (omega (arith, z.long))))

pub length-swap_rows : (m : List Float) (p j : ℕ) → length (swap_rows m p j) ≡ 36
unfolding swap_rows
length-swap_rows m p j = length-tab_from 0 36 (λ k. entry m (exchange p j (k % 6)) (k / 6))
