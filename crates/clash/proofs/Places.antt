-- A row's names in four places say what its key says. Assumes nothing.
use Rattle.std.proofs.Common.{ℕ, zero, suc, ◌≡◌, refl, sym, ap, Bool, ◌||◌, List, [], ◌∷◌, arith, take, ltb, lt-ltb, Option}
use Rattle.std.proofs.Math.Seq.{take-nil}
use Rattle.little_endian.specs.Bytes.{le16, le32}
use Rattle.clash.specs.Clash.{count_of, key_of, any_of}
use Rattle.clash.specs.Marks.{placed, names_of, named}

module _ (t : ℕ → Bool) (a b c d : ℕ) where
  -- the four places at a count of n
  abbrev at : ℕ → List (Option ℕ)
  at n = placed (ltb 0 n) a ∷ placed (ltb 1 n) b ∷ placed (ltb 2 n) c ∷ placed (ltb 3 n) d ∷ []

  pub any_placed : (n : ℕ) → any_of (named t) (at n) ≡ any_of t (take n (a ∷ b ∷ c ∷ d ∷ []))
  unfolding any_of placed
  any_placed zero = refl
  any_placed (suc zero) = refl
  any_placed (suc (suc zero)) = refl
  any_placed (suc (suc (suc zero))) = refl
  any_placed (suc (suc (suc (suc n)))) =
      simp (lt-ltb 0 (suc (suc (suc (suc n)))) (omega arith), lt-ltb 1 (suc (suc (suc (suc n)))) (omega arith), lt-ltb 2 (suc (suc (suc (suc n)))) (omega arith), lt-ltb 3 (suc (suc (suc (suc n)))) (omega arith))
      (ap (λ (l : List ℕ). t a || (t b || (t c || (t d || any_of t l)))) (sym (take-nil n)))

pub any_named : (t : ℕ → Bool) (b : List ℕ) → any_of (named t) (names_of b).ids ≡ any_of t (key_of b).ids
unfolding names_of key_of
any_named t b = any_placed t (le32 b 14) (le32 b 18) (le32 b 22) (le32 b 26) (count_of b)

pub colour_key : (b : List ℕ) → (key_of b).colour ≡ le16 b 6
unfolding key_of
colour_key b = refl

pub colour_names : (b : List ℕ) → (names_of b).colour ≡ le16 b 6
unfolding names_of
colour_names b = refl
