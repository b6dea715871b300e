-- A record's shape (six bytes there, kind and length due, whole), and a record's tests in its frame. Assumes nothing.
use Rattle.std.proofs.Common.{ℕ, ◌+◌, ◌-◌, ◌≤◌, ◌≡◌, refl, sym, ap, ◌∙◌, Bool, true, false, not, List, arith, length, ltb, le-ltb, lt-ltb}
use Rattle.std.proofs.Common.{ltb-false, Result, Ok}
use Rattle.std.proofs.Math.Decide.{dec_lt}
use Rattle.std.proofs.lemmas.Bool.{not-false}
use Rattle.little_endian.specs.Bytes.{le16, le32}
use Rattle.little_endian.proofs.Parts.{le16_part, length_part}
use Rattle.records.specs.declared.Due.{Due}
use Rattle.records.specs.declared.Refusal.{Refusal}
use Rattle.records.specs.declared.Refusal.TheVariants.{NotWhole, NotDue}
use Rattle.records.specs.declared.Refused.{Refused}
use Rattle.records.specs.Layout.{kind_at}
use Rattle.records.specs.Answers.{Passed, refuse, outcome}
use Rattle.records.specs.Fields.{fields}
use Rattle.records.specs.Outcomes.{refusal_of}
use Rattle.records.specs.Records.{is_due, record_length, record_at, shape, record_tests}
use Rattle.records.proofs.Firsts.{◌and_then◌, outcome_append, outcome_passed, passed_join, passed_split, passed_from, passed_back}
use Rattle.records.proofs.ByKind.{Kind, a_head, a_point, a_scalar, a_corotational, a_neo_hookean, due_kind}

pub record Shaped (w : Due) (s : List ℕ) (off : ℕ) : Type 0 where
  pub six : off + 6 ≤ length s
  pub due : is_due w (le16 s (off + 4)) (le32 s off) ≡ true
  pub whole : off + record_length s off ≤ length s

module _ (w : Due) (s : List ℕ) (off : ℕ) where
  pub shaped : Passed (shape w s off) → Shaped w s off
  unfolding shape Passed
  shaped p = record {
    six = ltb-false (length s) (off + 6) p.0;
    due = not-false _ p.1.0;
    whole = ltb-false (length s) (off + record_length s off) p.1.1.0;
  }

  pub shape_passes : Shaped w s off → Passed (shape w s off)
  unfolding shape Passed
  shape_passes x = (le-ltb (length s) (off + 6) x.six, (simp x.due, (le-ltb (length s) (off + record_length s off) x.whole, tt)))

-- ---- what the code returns

module _ (w : Due) (s : List ℕ) (off : ℕ) (inside : off ≤ length s) where
  within : (n : ℕ) → ltb (length s - off) n ≡ ltb (length s) (off + n)
  within n = elim (dec_lt (length s - off) n) [
    | yes h ↦ lt-ltb (length s - off) n h ∙ sym (lt-ltb (length s) (off + n) (omega arith))
    | no h ↦ le-ltb (length s - off) n (omega arith) ∙ sym (le-ltb (length s) (off + n) (omega arith))
  ]

  pub shape_is : outcome (shape w s off) ≡
      (outcome (refuse NotWhole off (ltb (length s - off) 6)) and_then
      outcome (refuse NotDue off (not (is_due w (le16 s (off + kind_at)) (le32 s off)))) and_then
      outcome (refuse NotWhole off (ltb (length s - off) (4 + le32 s off))))
  unfolding shape
  shape_is = simp (within 6, within (4 + le32 s off), outcome_append) refl

pub not_refused : (why : Refusal) (place : ℕ) (bad : Bool) {r : Result Unit Refused} {u : Unit} → r ≡ outcome (refuse why place bad) → r ≡ Ok u → bad ≡ false
unfolding outcome
not_refused why place true e z = cc
not_refused why place false e z = refl

-- ---- a record that passes

-- a due length is that of its kind
pub longer : {w : Due} {k n : ℕ} → Kind w k n → 22 ≤ n
longer (a_head k e) = omega arith
longer (a_point k e) = omega arith
longer (a_scalar k e) = omega arith
longer (a_corotational k e) = omega arith
longer (a_neo_hookean k e) = omega arith

pub shaped_of : (w : Due) (s : List ℕ) (off : ℕ) {A : Type 0} {r : Result A Refused} {a : A} → refusal_of r ≡ outcome (shape w s off) → r ≡ Ok a → Shaped w s off
shaped_of w s off e z = shaped w s off (outcome_passed (shape w s off) (sym e ∙ ap refusal_of z))

module _ {w : Due} {s : List ℕ} {off : ℕ} (x : Shaped w s off) where
  pub kind_of : Kind w (le16 s (off + 4)) (le32 s off)
  kind_of = due_kind w (le16 s (off + 4)) (le32 s off) x.due

  pub length-record : length (record_at s off) ≡ record_length s off
  length-record = length_part s off (record_length s off) x.whole

  pub kind_record : le16 (record_at s off) 4 ≡ le16 s (off + 4)
  kind_record = le16_part s off (record_length s off) 4 (omega (arith, longer kind_of))

module _ (w : Due) (s : List ℕ) (off c : ℕ) where
  pub record_passed : Passed (record_tests w s off c) → Shaped w s off × Passed (fields (record_at s off) c)
  unfolding record_tests
  record_passed p = let t = passed_split (shape w s off) _ p in (shaped w s off t.0, passed_back off _ t.1)

  pub record_passes : Shaped w s off → Passed (fields (record_at s off) c) → Passed (record_tests w s off c)
  unfolding record_tests
  record_passes x p = passed_join (shape w s off) _ (shape_passes w s off x) (passed_from off _ p)
