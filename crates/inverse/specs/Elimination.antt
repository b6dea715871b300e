-- Elimination of a column in place: the multipliers, then the columns to the right, each from row j + 1 on. Assumes nothing.
use Rattle.std.specs.Prelude.{ℕ, ◌+◌, ◌*◌, ◌/◌, ◌%◌, ◌<◌, ◌≤◌, ◌≡◌, List, set, length, Float}
use Rattle.std.proofs.Math.Path.{refl}
use Rattle.std.proofs.Common.{sym, ◌∙◌, le_refl}
use Rattle.std.proofs.Math.Logic.{inl, inr}
use Rattle.std.proofs.Common.{arith}
use Rattle.std.specs.Float.{nan}
use Rattle.std.proofs.Common.{lt-ltb, le-ltb, eq-eqb, ne_eqb}
use Rattle.loops.specs.Fill.{length-tab_from}
use Rattle.loops.specs.Between.{between, through, Sofar, sofar_none, sofar_more, sofar_skip, sofar_all, lt_or_ge}
use Rattle.real.specs.Float.{◌⊖◌, ◌⊗◌, at}
use Rattle.strain.specs.Matrix.{entry}
use Rattle.strain.specs.Columns.{cell}
use Rattle.inverse.specs.Inverse.{eliminate_at, eliminate}

abbrev pub scale_step : ℕ → Float → ℕ → List Float → List Float
scale_step j inv i l = set l (j * 6 + i) (entry l i j ⊗ inv)

abbrev pub reduce_step : ℕ → ℕ → Float → ℕ → List Float → List Float
reduce_step j k x i l = set l (k * 6 + i) (entry l i k ⊖ entry l i j ⊗ x)

unfoldable pub scaled : ℕ → Float → List Float → List Float
scaled j inv l = between (j + 1) 6 (scale_step j inv) l

unfoldable pub reduced : ℕ → ℕ → List Float → List Float
reduced j k l = between (j + 1) 6 (reduce_step j k (entry l j k)) l

module _ (w : List Float) (j : ℕ) (inv : Float) (hw : length w ≡ 36) (hj : j < 6) where
  f : ℕ → Float
  f = cell (eliminate_at w j inv)

  Part : List Float → ℕ → Type 0
  Part l k = Sofar nan 36 w f l k

  -- rows down to j, and columns before j, stay
  stays_row : (e : ℕ) → e % 6 ≤ j → f e ≡ at w e
  unfolding f
  stays_row e h = let s : e / 6 * 6 + e % 6 ≡ e = omega arith in rw (le-ltb j (e % 6) h, s) refl

  stays_column : (e : ℕ) → e / 6 < j → f e ≡ at w e
  unfolding f
  stays_column e h = elim (lt_or_ge j (e % 6)) [
    | inl r ↦
        let s : e / 6 * 6 + e % 6 ≡ e = omega arith in
        rw (lt-ltb j (e % 6) r, ne_eqb (e / 6) j (λ x. omega arith), le-ltb j (e / 6) (omega arith), s) refl
    | inr r ↦ stays_row e r
  ]

  below_pivot : (i : ℕ) → j < i → i < 6 → f (j * 6 + i) ≡ entry w i j ⊗ inv
  unfolding f
  below_pivot i a b =
      let r : (j * 6 + i) % 6 ≡ i = omega arith in
      let q : (j * 6 + i) / 6 ≡ j = omega arith in
      rw (r, q, lt-ltb j i a, eq-eqb j j refl) refl

  right_of : (i k : ℕ) → j < i → i < 6 → j < k → f (k * 6 + i) ≡ entry w i k ⊖ entry w i j ⊗ inv ⊗ entry w j k
  unfolding f
  right_of i k a b h =
      let r : (k * 6 + i) % 6 ≡ i = omega arith in
      let q : (k * 6 + i) / 6 ≡ k = omega arith in
      rw (r, q, lt-ltb j i a, ne_eqb k j (λ x. omega arith), lt-ltb j k h) refl

  scale_all : Part (scaled j inv w) ((j + 1) * 6)
  unfolding scaled Part
  scale_all =
      let z : Part w (j * 6 + (j + 1)) =
      sofar_skip (j * 6 + (j + 1)) (sofar_none hw) (omega arith)
      (λ e a b. elim (lt_or_ge (e / 6) j) [
        | inl s ↦ stays_column e s
        | inr s ↦ stays_row e (omega arith)
      ])
      in
      let y : Part (between (j + 1) 6 (scale_step j inv) w) (j * 6 + 6) =
      through {a = j + 1} {n = 6} {f = scale_step j inv} {s = w} (λ i l. Part l (j * 6 + i)) (omega arith) z
      (λ i l a b x.
      let k : j * 6 + (i + 1) ≡ j * 6 + i + 1 = omega arith in
      rw k (sofar_more x (omega arith) (rw (x.left (j * 6 + i) (le_refl (j * 6 + i))) (sym (below_pivot i (omega arith) b)))))
      in
      let k : (j + 1) * 6 ≡ j * 6 + 6 = omega arith in
      rw k y

  reduce_more : (k : ℕ) (l : List Float) → j < k → k < 6 → Part l (k * 6) → Part (reduced j k l) ((k + 1) * 6)
  unfolding reduced Part
  reduce_more k l hk h x =
      let z : Part l (k * 6 + (j + 1)) = sofar_skip (k * 6 + (j + 1)) x (omega arith) (λ e a b. stays_row e (omega arith)) in
      let top : entry l j k ≡ entry w j k = x.left (k * 6 + j) (omega arith) in
      let y : Part (between (j + 1) 6 (reduce_step j k (entry l j k)) l) (k * 6 + 6) =
      through {a = j + 1} {n = 6} {f = reduce_step j k (entry l j k)} {s = l} (λ i t. Part t (k * 6 + i)) (omega arith) z
      (λ i t a b y.
      let q : k * 6 + (i + 1) ≡ k * 6 + i + 1 = omega arith in
      let own : entry t i k ≡ entry w i k = y.left (k * 6 + i) (le_refl (k * 6 + i)) in
      let factor : entry t i j ≡ entry w i j ⊗ inv = y.done (j * 6 + i) (omega arith) ∙ below_pivot i (omega arith) b in
      rw q (sofar_more y (omega arith) (rw (own, factor, top) (sym (right_of i k (omega arith) b hk)))))
      in
      let e : (k + 1) * 6 ≡ k * 6 + 6 = omega arith in
      rw e y

  pub eliminate_all : between (j + 1) 6 (reduced j) (scaled j inv w) ≡ eliminate w j inv
  unfolding eliminate Part f
  eliminate_all =
      let z : Part (between (j + 1) 6 (reduced j) (scaled j inv w)) (6 * 6) =
      through {a = j + 1} {n = 6} {f = reduced j} {s = scaled j inv w} (λ k l. Part l (k * 6)) (omega arith) scale_all
      (λ k l a b x. reduce_more k l (omega arith) b x)
      in
      sofar_all z (omega arith)

pub length-eliminate : (m : List Float) (j : ℕ) (inv : Float) → length (eliminate m j inv) ≡ 36
unfolding eliminate
length-eliminate m j inv = length-tab_from 0 36 (cell (eliminate_at m j inv))
