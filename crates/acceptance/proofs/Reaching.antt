-- How far check gets: to the record that it refuses, or past them all. Assumes nothing.
use Rattle.std.proofs.Common.{ℕ, zero, suc, ◌+◌, ◌≤◌, ◌<◌, suc-le-suc, ◌≡◌, refl, ◌∙◌, ◌⊎◌, inl, inr, List, [], arith, not-suc-le-zero}
use Rattle.std.proofs.Common.{le_of_suc-le-suc}
use Rattle.little_endian.specs.Bytes.{le16}
use Rattle.records.specs.declared.Due.{Due}
use Rattle.records.specs.declared.Due.TheVariants.{Head, Point, Row}
use Rattle.records.specs.Answers.{◌then◌, refused, first_of, Passed}
use Rattle.records.specs.Records.{record_length, record_tests, records_tests, end_of}
use Rattle.records.proofs.Firsts.{passed_join, passed_split}
use Rattle.clash.specs.Clash.{clash_tests}
use Rattle.frame.specs.Frames.{count_n, count_r, rows_at}
use Rattle.frame.specs.Check.{extra, frame_tests, check_of}
use Rattle.acceptance.specs.Given.{colour_before, Reached, at_head, at_point, at_row, AllPass}
use Rattle.acceptance.proofs.Numbers.{refused_not, answer_split, answer_left, answer_right, within_answer, record_in, records_in, extra_in}
use Rattle.acceptance.proofs.Numbers.{clash_in}

-- ---- among some records

-- the record that is refused with n at p, and that all before it pass
pub record Found (w : Due) (k : ℕ) (s : List ℕ) (off c n p : ℕ) : Type 0 where
  pub i : ℕ
  pub below : i < k
  pub passed : Passed (records_tests w i s off c)
  pub refuses : first_of (record_tests w s (end_of i s off) (colour_before i s off c)) ≡ refused n p

pub find : (w : Due) (k : ℕ) (s : List ℕ) (off c n p : ℕ) → first_of (records_tests w k s off c) ≡ refused (suc n) p → Found w k s off c (suc n) p
unfolding records_tests end_of colour_before Passed first_of
find w zero s off c n p e = absurd (refused_not e refl)
find w (suc k) s off c n p e = go (answer_split (record_tests w s off c) _ n p e) (find w k s (off + record_length s off) (le16 s (off + 6)) n p)
  where
    go : (first_of (record_tests w s off c) ≡ refused (suc n) p)
        ⊎ (Passed (record_tests w s off c) × (first_of (records_tests w k s (off + record_length s off) (le16 s (off + 6))) ≡ refused (suc n) p))
        → (first_of (records_tests w k s (off + record_length s off) (le16 s (off + 6))) ≡ refused (suc n) p → Found w k s (off + record_length s off) (le16 s (off + 6)) (suc n) p)
        → Found w (suc k) s off c (suc n) p
    go (inl a) ih = record { i = 0; below = omega arith; passed = tt; refuses = a }
    go (inr (q, b)) ih = let x = ih b in record { i = suc x.i; below = suc-le-suc x.below; passed = passed_join (record_tests w s off c) _ q x.passed; refuses = x.refuses }

pub give : (w : Due) (i k : ℕ) (s : List ℕ) (off c n p : ℕ) → i < k → Passed (records_tests w i s off c)
    → first_of (record_tests w s (end_of i s off) (colour_before i s off c)) ≡ refused (suc n) p → first_of (records_tests w k s off c) ≡ refused (suc n) p
unfolding records_tests end_of colour_before
give w i zero s off c n p h q e = absurd (not-suc-le-zero h)
give w zero (suc k) s off c n p h q e = answer_left (record_tests w s off c) _ n p e
give w (suc i) (suc k) s off c n p h q e =
    let t = passed_split (record_tests w s off c) _ q in
    answer_right (record_tests w s off c) _ t.0 ∙ give w i k s (off + record_length s off) (le16 s (off + 6)) n p (le_of_suc-le-suc h) t.1 e

-- ---- in a frame

pub record Refused (s : List ℕ) (n p : ℕ) : Type 0 where
  pub due : Due
  pub off : ℕ
  pub colour : ℕ
  pub reached : Reached s due off colour
  pub refuses : first_of (record_tests due s off colour) ≡ refused n p

module _ (s : List ℕ) (n p : ℕ) where
  -- a number up to 7 is that of a record which check gets to
  pub to_record : suc n ≤ 7 → check_of s ≡ refused (suc n) p → Refused s (suc n) p
  unfolding check_of frame_tests
  to_record small e = at_the_head (answer_split (record_tests Head s 0 0) _ n p e)
    where
      in_rest : first_of (extra s then clash_tests (count_n s) (count_r s) s (rows_at s) []) ≡ refused (suc n) p → Refused s (suc n) p
      in_rest e = elim (answer_split (extra s) _ n p e) [
        | inl a ↦ absurd (omega (arith, within_answer 8 8 (extra s) n p (extra_in s) a))
        | inr a ↦ absurd (omega (arith, within_answer 9 9 _ n p (clash_in (count_n s) (count_r s) s (rows_at s) []) a.1))
      ]

      in_rows : Passed (record_tests Head s 0 0) → Passed (records_tests Point (count_n s) s 26 0)
          → (first_of (records_tests Row (count_r s) s (rows_at s) 0) ≡ refused (suc n) p)
          ⊎ (Passed (records_tests Row (count_r s) s (rows_at s) 0) × (first_of (extra s then clash_tests (count_n s) (count_r s) s (rows_at s) []) ≡ refused (suc n) p))
          → Refused s (suc n) p
      in_rows h q (inl a) = let x = find Row (count_r s) s (rows_at s) 0 n p a in
          record { due = Row; off = end_of x.i s (rows_at s); colour = colour_before x.i s (rows_at s) 0; reached = at_row x.i x.below h q x.passed; refuses = x.refuses }
      in_rows h q (inr b) = in_rest b.1

      in_points : Passed (record_tests Head s 0 0)
          → (first_of (records_tests Point (count_n s) s 26 0) ≡ refused (suc n) p)
          ⊎ (Passed (records_tests Point (count_n s) s 26 0)
          × (first_of (records_tests Row (count_r s) s (rows_at s) 0 then extra s then clash_tests (count_n s) (count_r s) s (rows_at s) []) ≡ refused (suc n) p))
          → Refused s (suc n) p
      in_points h (inl a) = let x = find Point (count_n s) s 26 0 n p a in
          record { due = Point; off = end_of x.i s 26; colour = colour_before x.i s 26 0; reached = at_point x.i x.below h x.passed; refuses = x.refuses }
      in_points h (inr b) = in_rows h b.0 (answer_split (records_tests Row (count_r s) s (rows_at s) 0) _ n p b.1)

      at_the_head : (first_of (record_tests Head s 0 0) ≡ refused (suc n) p)
          ⊎ (Passed (record_tests Head s 0 0)
          × (first_of (records_tests Point (count_n s) s 26 0 then records_tests Row (count_r s) s (rows_at s) 0 then extra s then clash_tests (count_n s) (count_r s) s (rows_at s) []) ≡ refused (suc n) p))
          → Refused s (suc n) p
      at_the_head (inl a) = record { due = Head; off = 0; colour = 0; reached = at_head; refuses = a }
      at_the_head (inr b) = in_points b.0 (answer_split (records_tests Point (count_n s) s 26 0) _ n p b.1)

  -- and a record that check gets to gives check its refusal
  pub of_record : Refused s (suc n) p → check_of s ≡ refused (suc n) p
  unfolding check_of frame_tests
  of_record x = go x.reached x.refuses
    where
      go : {w : Due} {off c : ℕ} → Reached s w off c → first_of (record_tests w s off c) ≡ refused (suc n) p → check_of s ≡ refused (suc n) p
      go at_head e = answer_left (record_tests Head s 0 0) _ n p e
      go (at_point i h a q) e =
          answer_right (record_tests Head s 0 0) _ a
          ∙ answer_left (records_tests Point (count_n s) s 26 0) _ n p (give Point i (count_n s) s 26 0 n p h q e)
      go (at_row i h a q r) e =
          answer_right (record_tests Head s 0 0) _ a
          ∙ answer_right (records_tests Point (count_n s) s 26 0) _ q
          ∙ answer_left (records_tests Row (count_r s) s (rows_at s) 0) _ n p (give Row i (count_r s) s (rows_at s) 0 n p h r e)

  -- ---- past all records

  abbrev last : Type 0
  last = first_of (extra s then clash_tests (count_n s) (count_r s) s (rows_at s) []) ≡ refused (suc n) p

  pub to_last : 8 ≤ suc n → check_of s ≡ refused (suc n) p → AllPass s × last
  unfolding check_of frame_tests
  to_last large e = elim (answer_split (record_tests Head s 0 0) _ n p e) [
    | inl a ↦ absurd (omega (arith, within_answer 1 7 _ n p (record_in Head s 0 0) a))
    | inr a ↦ (elim (answer_split (records_tests Point (count_n s) s 26 0) _ n p a.1) [
      | inl b ↦ absurd (omega (arith, within_answer 1 7 _ n p (records_in Point (count_n s) s 26 0) b))
      | inr b ↦ (elim (answer_split (records_tests Row (count_r s) s (rows_at s) 0) _ n p b.1) [
        | inl d ↦ absurd (omega (arith, within_answer 1 7 _ n p (records_in Row (count_r s) s (rows_at s) 0) d))
        | inr d ↦ (record { the_head = a.0; the_points = b.0; the_rows = d.0 }, d.1)
      ])
    ])
  ]

  pub of_last : AllPass s → last → check_of s ≡ refused (suc n) p
  unfolding check_of frame_tests
  of_last x e =
      answer_right (record_tests Head s 0 0) _ x.the_head ∙ answer_right (records_tests Point (count_n s) s 26 0) _ x.the_points
      ∙ answer_right (records_tests Row (count_r s) s (rows_at s) 0) _ x.the_rows ∙ e
