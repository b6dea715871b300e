-- An entry of the file `frames`: so many bytes of the base with two of its fields replaced, and the number and place that check must answer. Assumes nothing.
use Rattle.std.specs.Prelude.{ℕ, ◌+◌, ◌%◌, ◌≡◌, Bool, true, false, cond, ◌&&◌, List, eqb, leb, length, take}
use Rattle.std.proofs.Common.{sym, arith}
use Rattle.replay.specs.Tallies.{miss}
use Rattle.little_endian.specs.Bytes.{le16, le32, bytes2, bytes4, patch}
use Rattle.records.specs.declared.Answer.{Answer}
use Rattle.frame.specs.Check.{check_of}

abbrev pub same : Answer → ℕ → ℕ → Bool
same a number place = eqb a.number number && eqb a.place place

-- a number in 2 or 4 bytes at `at`, where they fit
abbrev pub put2 : List ℕ → ℕ → ℕ → List ℕ
put2 s at n = cond (leb (at + 2) (length s)) (patch s at (bytes2 (n % 65536))) s

abbrev pub put4 : List ℕ → ℕ → ℕ → List ℕ
put4 s at n = cond (leb (at + 4) (length s)) (patch s at (bytes4 n)) s

-- in w bytes; nothing where w is neither 2 nor 4
abbrev pub put : List ℕ → ℕ → ℕ → ℕ → List ℕ
put s at w n = cond (eqb w 2) (put2 s at n) (cond (eqb w 4) (put4 s at n) s)

abbrev pub answered : List ℕ → ℕ → ℕ → ℕ → Bool
answered s len number place = cond (leb len (length s)) (same (check_of (take len s)) number place) false

abbrev pub as_stored : List ℕ → List ℕ → Bool
as_stored base entry =
    answered
    (put (put base (le16 entry 2) (le16 entry 4) (le32 entry 6)) (le16 entry 10) (le16 entry 12) (le32 entry 14))
    (le16 entry 0) (le16 entry 18) (le16 entry 20)

-- of `tried` entries `bad` are answered otherwise
pub data Counted (base : List ℕ) : ℕ → ℕ → Type 0 where
  none : Counted base 0 0
  one_right : {tried bad : ℕ} (entry : List ℕ) → as_stored base entry ≡ true → Counted base tried bad → Counted base (tried + 1) bad
  one_wrong : {tried bad : ℕ} (entry : List ℕ) → as_stored base entry ≡ false → Counted base tried bad → Counted base (tried + 1) (bad + 1)

-- one entry more
pub counted : {base : List ℕ} {tried bad tried' bad' : ℕ} {b : Bool} (entry : List ℕ) → Counted base tried bad → b ≡ as_stored base entry
    → tried' ≡ tried + 1 → bad' ≡ bad + miss b → Counted base tried' bad'
counted {bad = bad} {bad' = bad'} {b = true} entry before e n d =
    let z : bad' ≡ bad = omega (arith, d) in
    rw (n, z) (one_right entry (sym e) before)
counted {b = false} entry before e n d = rw (n, d) (one_wrong entry (sym e) before)
