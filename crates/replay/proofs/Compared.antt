-- Values compared one after another, as an iterator's `all` does. Assumes nothing.
use Rattle.std.specs.Prelude.{◌≡◌, refl, ℕ, zero, suc, ◌<◌, Bool, true, false, ◌&&◌, length, get_or}
use Rattle.std.specs.Bool.{MatchBool}
use Rattle.std.specs.List.{range_with_len, AllWithin, HoldsAt}
use Rattle.std.proofs.Common.{◌∙◌, sym, inl, inr, arith}
use Rattle.std.proofs.lemmas.List.FromFn.{length-range_with_len, get_or-range_with_len}
use Rattle.std.proofs.Math.Bool.{and-false}
use Rattle.loops.specs.Between.{lt_or_ge}
use Rattle.loops.specs.Loops.{up_to}

module _ (p : ℕ → Bool) where
  all_true : (n : ℕ) → ((i : ℕ) → i < n → p i ≡ true) → up_to n (λ i b. b && p i) true ≡ true
  all_true zero h = refl
  all_true (suc n) h = rw (all_true n (λ i l. h i (omega (arith, l))), h n (omega arith)) refl

  one_false : (n i : ℕ) → i < n → p i ≡ false → up_to n (λ i b. b && p i) true ≡ false
  one_false zero i l e = absurd (omega (arith, l))
  one_false (suc n) i l e = elim (lt_or_ge i n) [
    | inl s ↦ rw (one_false n i s e) refl
    | inr s ↦
        let z : i ≡ n = omega (arith, l, s) in
        rw (← z, e) (and-false (up_to i (λ i b. b && p i) true))
  ]

  number : (n i : ℕ) → i < n → get_or (range_with_len 0 n) i 0 ≡ i
  number n i l = get_or-range_with_len 0 n i 0 l ∙ omega arith

  -- what `all` tells of the numbers below n
  pub all_of : (b : Bool) (n : ℕ)
      → MatchBool b (AllWithin (λ i. p i ≡ true) (range_with_len 0 n) 0 (length (range_with_len 0 n)))
      ((k : ℕ) × (k < length (range_with_len 0 n)) × HoldsAt (λ i. p i ≡ false) (range_with_len 0 n) k)
      → b ≡ up_to n (λ i b. b && p i) true
  all_of true n h = sym (all_true n (λ i l. rw (number n i l) at (h i 0 (omega arith) (rw (length-range_with_len 0 n) l))))
  all_of false n h =
      let l : h.0 < n = rw (length-range_with_len 0 n) at h.1 in
      sym (one_false n h.0 l (rw (number n h.0 l) at (h.2 0)))
