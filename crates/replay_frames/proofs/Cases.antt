-- Each case of the definitions of an entry, and what one entry more makes of the count. Assumes nothing.
use Rattle.std.proofs.Common.{◌≡◌, ℕ, ◌+◌, ◌%◌, ◌<◌, ◌≤◌, Bool, true, false, List, length, take, refl, arith, le-leb, eq-eqb, ne_eqb}
use Rattle.std.proofs.lemmas.Bool.{lt-leb}
use Rattle.little_endian.specs.Bytes.{bytes2, bytes4, patch}
use Rattle.records.specs.declared.Answer.{Answer}
use Rattle.frame.specs.Check.{check_of}
use Rattle.replay_frames.specs.Entries.{same, put2, put4, put, answered, as_stored, Counted, one_right, one_wrong}

-- what is told of the next entry: 0 it is answered as stored, 1 otherwise, 2 there is none
pub data Told (base : List ℕ) : ℕ → Type 0 where
  right : (entry : List ℕ) → as_stored base entry ≡ true → Told base 0
  wrong : (entry : List ℕ) → as_stored base entry ≡ false → Told base 1
  no_more : Told base 2

module _ {base : List ℕ} {tried bad : ℕ} (before : Counted base tried bad) where
  pub counts_right : (got : ℕ) → Told base got → (got ≡ 2 → ⊥) → (got ≡ 1 → ⊥) → Counted base (tried + 1) bad
  counts_right got (right entry e) p q = one_right entry e before
  counts_right got (wrong entry e) p q = absurd (q refl)
  counts_right got no_more p q = absurd (p refl)

  pub counts_wrong : (got : ℕ) → Told base got → got ≡ 1 → Counted base (tried + 1) (bad + 1)
  counts_wrong got (right entry e) p = absurd (omega (arith, p))
  counts_wrong got (wrong entry e) p = one_wrong entry e before
  counts_wrong got no_more p = absurd (omega (arith, p))

-- ---- each case of the definitions

module _ (s : List ℕ) (at n : ℕ) where
  pub two_fit : {t : List ℕ} → at + 2 ≤ length s → t ≡ patch s at (bytes2 (n % 65536)) → t ≡ put2 s at n
  two_fit h e = rw (le-leb (at + 2) (length s) h) e

  pub two_do_not : length s < at + 2 → s ≡ put2 s at n
  two_do_not h = rw (lt-leb (at + 2) (length s) h) refl

  pub four_fit : {t : List ℕ} → at + 4 ≤ length s → t ≡ patch s at (bytes4 n) → t ≡ put4 s at n
  four_fit h e = rw (le-leb (at + 4) (length s) h) e

  pub four_do_not : length s < at + 4 → s ≡ put4 s at n
  four_do_not h = rw (lt-leb (at + 4) (length s) h) refl

  pub of_two : {t : List ℕ} (w : ℕ) → w ≡ 2 → t ≡ put2 s at n → t ≡ put s at w n
  of_two w h e = rw (eq-eqb w 2 h) e

  pub of_four : {t : List ℕ} (w : ℕ) → (w ≡ 2 → ⊥) → w ≡ 4 → t ≡ put4 s at n → t ≡ put s at w n
  of_four w g h e = rw (ne_eqb w 2 g, eq-eqb w 4 h) e

  pub of_neither : (w : ℕ) → (w ≡ 2 → ⊥) → (w ≡ 4 → ⊥) → s ≡ put s at w n
  of_neither w g h = rw (ne_eqb w 2 g, ne_eqb w 4 h) refl

module _ (s : List ℕ) (len number place : ℕ) where
  pub of_a_part : {a : Answer} {b : Bool} → len ≤ length s → a ≡ check_of (take len s) → b ≡ same a number place → b ≡ answered s len number place
  of_a_part h e f = rw (le-leb len (length s) h, ← e) f

  pub of_too_few : length s < len → false ≡ answered s len number place
  of_too_few h = rw (lt-leb len (length s) h) refl
