-- Behind a record's words each is 0: every word is what it is in a buffer of zeros that the record is read into. Assumes nothing.
use Rattle.std.specs.Prelude.{◌≡◌, refl, ℕ, zero, suc, ◌+◌, ◌*◌, ◌<◌, ◌≤◌, List, length, get_or, replicate, slice_index, slice_set}
use Rattle.std.proofs.Common.{sym, ◌∙◌, inl, inr, arith, ne_of_lt, length-set, get_or-set_same, get_or-set_other}
use Rattle.std.proofs.lemmas.List.{get_or_past, get_or-replicate, length-replicate}
use Rattle.little_endian.specs.Bytes.{le32}
use Rattle.loops.specs.Between.{lt_or_ge}
use Rattle.loops.specs.Fill.{tabulate, get_d_tabulate, length-tab_from}
use Rattle.loops.specs.Loops.{up_to}
use Rattle.replay.specs.Words.{words_at}

module _ (f : ℕ → ℕ) where
  -- l with f k at each k below n
  abbrev stored : ℕ → List ℕ → List ℕ
  stored n l = up_to n (λ k w. slice_set w k (f k)) l

  long : (n : ℕ) (l : List ℕ) → length (stored n l) ≡ length l
  long zero l = refl
  long (suc n) l = length-set (stored n l) n (f n) ∙ long n l

  above : (n k : ℕ) (l : List ℕ) → n ≤ k → get_or (stored n l) k 0 ≡ get_or l k 0
  above zero k l h = refl
  above (suc n) k l h = get_or-set_other (stored n l) n k (f n) 0 (λ e. absurd (omega (arith, e, h))) ∙ above n k l (omega (arith, h))

  below : (n k : ℕ) (l : List ℕ) → n ≤ length l → k < n → get_or (stored n l) k 0 ≡ f k
  below zero k l h b = absurd (omega (arith, b))
  below (suc n) k l h b = elim (lt_or_ge k n) [
    | inl s ↦ get_or-set_other (stored n l) n k (f n) 0 (ne_of_lt s) ∙ below n k l (omega (arith, h)) s
    | inr s ↦ let z : k ≡ n = omega (arith, b, s) in rw z (get_or-set_same (stored n l) n (f n) 0 (rw (long n l) (omega (arith, h))))
  ]

  zeros : (room k : ℕ) → get_or (replicate {A = ℕ} room 0) k 0 ≡ 0
  zeros room k = elim (lt_or_ge k room) [
    | inl s ↦ get_or-replicate room k 0 0 s
    | inr s ↦ get_or_past (replicate room 0) k 0 (rw (length-replicate {A = ℕ} room 0) s)
  ]

  alike : (n room k : ℕ) → n ≤ room → get_or (tabulate n f) k 0 ≡ get_or (stored n (replicate room 0)) k 0
  alike n room k h = elim (lt_or_ge k n) [
    | inl s ↦ get_d_tabulate 0 n f k s ∙ sym (below n k (replicate room 0) (rw (length-replicate {A = ℕ} room 0) h) s)
    | inr s ↦
        get_or_past (tabulate n f) k 0 (rw (length-tab_from 0 n f) s) ∙ sym (zeros room k) ∙ sym (above n k (replicate room 0) s)
  ]

pub as_in_a_buffer : (s : List ℕ) (from size room k : ℕ) → size ≤ room
    → slice_index (words_at s from size) k ≡ slice_index (up_to size (λ k w. slice_set w k (le32 s (from + 4 * k))) (replicate room 0)) k
unfolding words_at
as_in_a_buffer s from size room k h = alike (λ k. le32 s (from + 4 * k)) size room k h
