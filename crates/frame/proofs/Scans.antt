-- The loop over records: it stops at the first refusal, and else comes to the end of the last record. Assumes nothing.
use Rattle.std.proofs.Common.{ℕ, suc, ◌+◌, ◌≤◌, ◌<◌, ◌≡◌, refl, sym, ap, ◌∙◌, List, arith, length, Result, Ok, Err}
use Rattle.little_endian.specs.Bytes.{le16}
use Rattle.little_endian.proofs.Parts.{le16_part}
use Rattle.records.specs.declared.Due.{Due}
use Rattle.records.specs.declared.Refused.{Refused}
use Rattle.records.specs.Answers.{outcome}
use Rattle.records.specs.Records.{record_length, record_at, record_tests, records_tests, end_of}
use Rattle.records.proofs.Rest.{Rest, rest_begin, rest_again, rest_stops, rest_ends}
use Rattle.records.proofs.Firsts.{◌and_then◌, outcome_append, outcome_passed}
use Rattle.records.proofs.Shapes.{Shaped, record_passed, kind_of, longer}

pub record At : Type 0 where
  pub off : ℕ
  pub colour : ℕ

abbrev pub at : ℕ → ℕ → At
at o c = record { off = o; colour = c }

abbrev pub tested : Due → List ℕ → ℕ → At → Result Unit Refused
tested w s k a = outcome (records_tests w k s a.off a.colour)

abbrev pub ended : List ℕ → ℕ → ℕ → ℕ
ended s k off = end_of k s off

pub record Scanning (w : Due) (s : List ℕ) (k at₀ i off c : ℕ) : Type 0 where
  pub going : Rest (tested w s) k (at at₀ 0) i (at off c)
  pub ending : Rest (ended s) k at₀ i off
  pub inside : off ≤ length s

pub begins : (w : Due) (s : List ℕ) (k at₀ : ℕ) → at₀ ≤ length s → Scanning w s k at₀ 0 at₀ 0
begins w s k at₀ h = record { going = rest_begin k (at at₀ 0); ending = rest_begin k at₀; inside = h }

-- a record that passed is there
module _ (w : Due) (s : List ℕ) (off c : ℕ) {r : Result Unit Refused} (e : r ≡ outcome (record_tests w s off c)) {u : Unit} (z : r ≡ Ok u) where
  there : Shaped w s off
  there = (record_passed w s off c (outcome_passed (record_tests w s off c) (sym e ∙ z))).0

  pub whole : off + record_length s off ≤ length s
  whole = there.whole

  pub long : 26 ≤ record_length s off
  long = omega (arith, longer (kind_of there))

  -- the colour, read from the part that holds the record
  pub colour_found : {d : ℕ} {b : List ℕ} → d ≡ le16 b 6 → b ≡ record_at s off → d ≡ le16 s (off + 6)
  colour_found f g = f ∙ ap (λ (l : List ℕ). le16 l 6) g ∙ le16_part s off (record_length s off) 6 (omega (arith, long))

module _ {w : Due} {s : List ℕ} {k at₀ i off c : ℕ} (t : Scanning w s k at₀ i off c) (h : i < k) {r : Result Unit Refused} (e : r ≡ outcome (record_tests w s off c)) where
  one : (m : ℕ) → tested w s (suc m) (at off c) ≡ (r and_then tested w s m (at (off + record_length s off) (le16 s (off + 6))))
  unfolding records_tests
  one m = outcome_append (record_tests w s off c) _ ∙ simp (← e) refl

  pub refuses : (x : Refused) → r ≡ Err x → Err x ≡ outcome (records_tests w k s at₀ 0)
  refuses x z = rest_stops t.going h (λ m. one m ∙ simp z)

  pub again : (u : Unit) (off' c' : ℕ) → r ≡ Ok u → off' ≡ off + record_length s off → c' ≡ le16 s (off + 6) → Scanning w s k at₀ (i + 1) off' c'
  unfolding end_of
  again u off' c' z p q = record {
    going = rest_again (at off' c') t.going h (λ m. one m ∙ simp (z, p, q));
    ending = rest_again off' t.ending h (λ m. ap (end_of m s) (sym p));
    inside = omega (arith, whole w s off c e z);
  }

module _ {w : Due} {s : List ℕ} {k at₀ i off c : ℕ} (t : Scanning w s k at₀ i off c) (h : k ≤ i) where
  pub all_passed : Ok tt ≡ outcome (records_tests w k s at₀ 0)
  unfolding records_tests outcome
  all_passed = rest_ends t.going h

  pub ends : off ≡ end_of k s at₀
  unfolding end_of
  ends = rest_ends t.ending h
