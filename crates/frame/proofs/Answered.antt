-- What the head of a frame that passes says, and the frame's tests part by part. Assumes nothing.
use Rattle.std.proofs.Common.{ℕ, ◌+◌, ◌≤◌, ◌≡◌, refl, sym, ap, ◌∙◌, List, [], arith, length, Result, Ok}
use Rattle.little_endian.specs.Bytes.{le16, le32}
use Rattle.little_endian.proofs.Parts.{le32_part}
use Rattle.records.specs.declared.Due.TheVariants.{Head, Point, Row}
use Rattle.records.specs.declared.Refused.{Refused}
use Rattle.records.specs.Answers.{Test, Passed, outcome, answer_of}
use Rattle.records.specs.Outcomes.{refusal_of}
use Rattle.records.specs.Records.{record_length, record_at, record_tests, records_tests}
use Rattle.records.proofs.Firsts.{◌and_then◌, outcome_append, outcome_passed, answer_outcome}
use Rattle.records.proofs.ByKind.{Kind, a_head}
use Rattle.records.proofs.Shapes.{Shaped, record_passed, kind_of, kind_record}
use Rattle.records.proofs.Values.{HeadValues, head_values}
use Rattle.clash.specs.Clash.{clash_tests}
use Rattle.frame.specs.Frames.{count_n, count_r, rows_at}
use Rattle.frame.specs.Check.{extra, frame_tests, check_of}

-- the tests of a record or of records that the code found good
pub passed_of : (ts : List Test) {A : Type 0} {r : Result A Refused} {a : A} → refusal_of r ≡ outcome ts → r ≡ Ok a → Passed ts
passed_of ts e z = outcome_passed ts (sym e ∙ ap refusal_of z)

-- ---- the head

head_is : {k n : ℕ} → Kind Head k n → (k ≡ 1) × (n ≡ 22)
head_is (a_head k n) = (k, n)

module _ (s : List ℕ) (p : Passed (record_tests Head s 0 0)) where
  pub head_shaped : Shaped Head s 0
  head_shaped = (record_passed Head s 0 0 p).0

  pub head_kind : (le16 s 4 ≡ 1) × (le32 s 0 ≡ 22)
  head_kind = head_is (kind_of head_shaped)

  pub head_long : 26 ≤ length s
  head_long = omega (arith, head_shaped.whole, head_kind.1)

  values : HeadValues (record_at s 0)
  values = head_values (record_at s 0) 0 (kind_record head_shaped ∙ head_kind.0) (record_passed Head s 0 0 p).1

  head_32 : (k : ℕ) → k + 4 ≤ 26 → le32 (record_at s 0) k ≡ le32 s k
  head_32 k h = le32_part s 0 (record_length s 0) k (omega (arith, head_kind.1)) ∙ ap (le32 s) (omega arith)

  pub few_points : count_n s ≤ 4096
  few_points = omega (arith, values.few_points, head_32 6 (omega arith))

  pub few_rows : count_r s ≤ 4096
  few_rows = omega (arith, values.few_rows, head_32 10 (omega arith))

-- ---- the tests of a frame, part by part

pub frame_outcome : (s : List ℕ) → outcome (frame_tests s) ≡
    (outcome (record_tests Head s 0 0)
    and_then outcome (records_tests Point (count_n s) s 26 0)
    and_then outcome (records_tests Row (count_r s) s (rows_at s) 0)
    and_then outcome (extra s)
    and_then outcome (clash_tests (count_n s) (count_r s) s (rows_at s) []))
unfolding frame_tests
frame_outcome s = simp outcome_append refl

pub check_is : (s : List ℕ) → check_of s ≡ answer_of (outcome (frame_tests s))
unfolding check_of
check_is s = sym (answer_outcome (frame_tests s))
