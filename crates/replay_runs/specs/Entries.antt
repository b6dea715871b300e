-- An entry of the file `runs`: a frame, the number and the place that check and run must return for it, and the bytes that run must leave. Assumes nothing.
use Rattle.std.specs.Prelude.{ℕ, ◌+◌, ◌≡◌, refl, nat_eq, Bool, true, false, ◌&&◌, List, [], ◌∷◌, eqb}
use Rattle.std.proofs.Common.{sym, arith}
use Rattle.std.specs.Cmp.Lexicographic.{pointwise}
use Rattle.replay.specs.Tallies.{miss}
use Rattle.records.specs.declared.Answer.{Answer}
use Rattle.frame.specs.Check.{check_of}
use Rattle.stored.specs.Run.{answers, leaves}

abbrev pub is : Answer → ℕ → ℕ → Bool
is a number place = eqb a.number number && eqb a.place place

-- as many numbers, and each the same
abbrev pub equal : List ℕ → List ℕ → Bool
equal [] [] = true
equal [] (y ∷ ys) = false
equal (x ∷ xs) [] = false
equal (x ∷ xs) (y ∷ ys) = eqb x y && equal xs ys

unfoldable pub as_stored : List ℕ → ℕ → ℕ → List ℕ → Bool
as_stored s number place after = is (check_of s) number place && is (answers s) number place && equal (leaves s) after

-- of `tried` entries `bad` end otherwise
pub data Counted : ℕ → ℕ → Type 0 where
  none : Counted 0 0
  one_right : {tried bad : ℕ} (s : List ℕ) (number place : ℕ) (after : List ℕ) → as_stored s number place after ≡ true → Counted tried bad → Counted (tried + 1) bad
  one_wrong : {tried bad : ℕ} (s : List ℕ) (number place : ℕ) (after : List ℕ) → as_stored s number place after ≡ false → Counted tried bad → Counted (tried + 1) (bad + 1)

-- one entry more
pub counted : {tried bad tried' bad' : ℕ} {b : Bool} (s : List ℕ) (number place : ℕ) (after : List ℕ) → Counted tried bad → b ≡ as_stored s number place after
    → tried' ≡ tried + 1 → bad' ≡ bad + miss b → Counted tried' bad'
counted {bad = bad} {bad' = bad'} {b = true} s number place after before e n d =
    let z : bad' ≡ bad = omega (arith, d) in
    rw (n, z) (one_right s number place after (sym e) before)
counted {b = false} s number place after before e n d = rw (n, d) (one_wrong s number place after (sym e) before)

-- the test of the library on two slices
pub same_bytes : (xs ys : List ℕ) → pointwise nat_eq xs ys ≡ equal xs ys
same_bytes [] [] = refl
same_bytes [] (y ∷ ys) = refl
same_bytes (x ∷ xs) [] = refl
same_bytes (x ∷ xs) (y ∷ ys) = rw (same_bytes xs ys) refl
