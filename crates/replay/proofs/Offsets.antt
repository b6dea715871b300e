-- The walk over a file's records by the offset of the next one, with each record read into a buffer of 400 words: how it begins, goes on and ends.
-- Zeros says that each word of a record is the same in the record itself. Assumes nothing.
use Rattle.std.specs.Prelude.{◌≡◌, ℕ, ◌+◌, ◌-◌, ◌*◌, ◌<◌, ◌≤◌, Bool, List, length, replicate, slice_set}
use Rattle.std.proofs.Math.Path.{refl}
use Rattle.std.proofs.Common.{add-mul, add-one, arith}
use Rattle.little_endian.specs.Bytes.{le32}
use Rattle.loops.specs.Loops.{up_to}
use Rattle.replay.specs.Tallies.{miss}
use Rattle.replay.specs.declared.tally.Tally.{Tally}

-- a record: the `size` words of the bytes from `from` on, and zeros up to 400
unfoldable pub words_at : List ℕ → ℕ → ℕ → List ℕ
words_at s from size = up_to size (λ k w. slice_set w k (le32 s (from + 4 * k))) (replicate 400 0)

-- of how many of the first n records, of `size` words each, the answer is not what was stored
unfoldable pub misses : (List ℕ → Bool) → List ℕ → ℕ → ℕ → ℕ
misses agrees s size n = up_to n (λ i d. d + miss (agrees (words_at s (i * (4 * size)) size))) 0

-- the bytes are `records` whole records and less than one more, and `differ` of these do not agree
pub record Tallied (agrees : List ℕ → Bool) (s : List ℕ) (size : ℕ) (r : Tally) : Type 0 where
  pub whole : r.records * (4 * size) ≤ length s
  pub rest : length s < r.records * (4 * size) + 4 * size
  pub counted : r.differ ≡ misses agrees s size r.records
  pub few : r.differ ≤ r.records

-- `records` of them were passed, which end at `at`
pub record Walked (agrees : List ℕ → Bool) (s : List ℕ) (size records differ at : ℕ) : Type 0 where
  pub passed : at ≡ records * (4 * size)
  pub low : at ≤ length s
  pub fits : records ≤ at
  pub few : differ ≤ records
  pub counted : differ ≡ misses agrees s size records

module _ {agrees : List ℕ → Bool} {s : List ℕ} {size : ℕ} where
  pub begins : Walked agrees s size 0 0 0
  unfolding misses
  begins = record { passed = omega arith; low = omega arith; fits = omega arith; few = omega arith; counted = refl }

  pub again : {records differ at d : ℕ} {w : List ℕ} → Walked agrees s size records differ at → 1 ≤ size → 4 * size ≤ length s - at → d ≤ 1
      → w ≡ words_at s at size → d ≡ miss (agrees w) → Walked agrees s size (records + 1) (differ + d) (at + 4 * size)
  unfolding misses
  again {records} {differ} {at} {d} {w} h some fit small read e =
      record {
        passed = rw (add-mul records 1 (4 * size)) (omega (arith, h.passed));
        low = omega (arith, h.low);
        fits = omega (arith, h.fits);
        few = omega (arith, h.few);
        counted = rw (add-one records, ← h.counted, ← h.passed, ← read, ← e) refl;
      }

  pub ends : {records differ at : ℕ} → Walked agrees s size records differ at → length s - at < 4 * size
      → Tallied agrees s size (record { records = records; differ = differ })
  ends {records} {differ} {at} h short =
      record {
        whole = omega (arith, h.passed, h.low);
        rest = omega (arith, h.passed, h.low);
        counted = h.counted;
        few = h.few;
      }
