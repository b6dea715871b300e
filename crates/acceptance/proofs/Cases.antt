-- The numbers 3 to 7 in the words of the table: the first test of a record's fields that fails, and the fault that it finds. Assumes nothing.
use Rattle.std.proofs.Common.{ℕ, suc, ◌+◌, ◌≤◌, ◌<◌, ◌≡◌, sym, subst, true, cond, ◌↔◌, List, arith, length, eqb}
use Rattle.std.proofs.Math.Decide.{dec_lt}
use Rattle.little_endian.specs.Bytes.{le16, le32}
use Rattle.records.specs.declared.Due.{Due}
use Rattle.records.specs.Answers.{refused, first_of}
use Rattle.records.specs.Fields.{fields}
use Rattle.records.specs.Records.{is_due, record_length, record_at}
use Rattle.records.proofs.ByKind.{Kind, due_kind}
use Rattle.records.proofs.Shapes.{Shaped, longer, kind_of, kind_record}
use Rattle.acceptance.specs.Given.{GivenField}
use Rattle.acceptance.specs.Faults.{TooMany, BadCode, NotFinite, Disordered, ColourFalls, Fault, fault_3, fault_4, fault_5, fault_6}
use Rattle.acceptance.specs.Faults.{fault_7, GivenAs, Given3, Given4, Given5, Given6, Given7}
use Rattle.acceptance.proofs.Numbers.{first_failure}
use Rattle.acceptance.proofs.Earliest.{Has, each_has, has_after, turn, first_earliest, earliest_first}
use Rattle.acceptance.proofs.InTurn.{fields_in_turn, fields_are, fault_fails}

-- ---- one record: in the case of number n at k, in no lower number's, and at no earlier byte in this one

pub record First (n : ℕ) (b : List ℕ) (c k : ℕ) : Type 0 where
  pub fault : Fault b c n k
  pub none_lower : (m j : ℕ) → m < n → Fault b c m j → ⊥
  pub none_earlier : (j : ℕ) → j < k → Fault b c n j → ⊥

module _ (n : ℕ) (b : List ℕ) (c k : ℕ) {w : Due} {l : ℕ} (kind : Kind w (le16 b 4) l) where
  is_fault : (m j : ℕ) → Has m j (fields b c) → Fault b c m j
  is_fault m j h = each_has (Fault b c) (fields b c) m j (fields_are b c kind) h

  near : (m j : ℕ) → Has m j (fields b c) → j < 65536
  near m j h = (has_after 0 (fields b c) m j (fields_in_turn b c) h).1

  to_first : first_of (fields b c) ≡ refused (suc n) k → First (suc n) b c k
  to_first e = let x = first_earliest 0 n k (fields b c) (fields_in_turn b c) e in
      record {
        fault = is_fault (suc n) k x.has;
        none_lower = λ m j l f. let h = fault_fails b c f in x.none_before m j (omega (arith, near m j h)) h;
        none_earlier = λ j l f. x.none_before (suc n) j (omega arith) (fault_fails b c f);
      }

  of_first : First (suc n) b c k → first_of (fields b c) ≡ refused (suc n) k
  of_first x = earliest_first 0 n k (fields b c) (fields_in_turn b c) (record { has = here; none_before = before })
    where
      here : Has (suc n) k (fields b c)
      here = fault_fails b c x.fault

      before : (m j : ℕ) → turn m j < turn (suc n) k → Has m j (fields b c) → ⊥
      before m j l h = elim (dec_lt m (suc n)) [
        | yes p ↦ x.none_lower m j p (is_fault m j h)
        | no p ↦ (let same : m ≡ suc n = omega (arith, near (suc n) k here) in
            x.none_earlier j (omega arith) (subst (λ (i : ℕ). Fault b c i j) same (is_fault m j h)))
      ]

-- ---- a record of a frame, by any case that is the fault of number n

-- a record that is due and whole has its shape
pub shape_of : (w : Due) (s : List ℕ) (off : ℕ) → is_due w (le16 s (off + 4)) (le32 s off) ≡ true → off + record_length s off ≤ length s → Shaped w s off
shape_of w s off here whole = record { six = omega (arith, longer (due_kind w (le16 s (off + 4)) (le32 s off) here)); due = here; whole = whole }

kind_at : (w : Due) (s : List ℕ) (off : ℕ) → is_due w (le16 s (off + 4)) (le32 s off) ≡ true → off + record_length s off ≤ length s → Kind w (le16 (record_at s off) 4) (le32 s off)
kind_at w s off here whole =
    let x = shape_of w s off here whole in
    subst (λ (k : ℕ). Kind w k (le32 s off)) (sym (kind_record x)) (kind_of x)

module _ (n : ℕ) (Case : List ℕ → ℕ → ℕ → Type 0)
    (to-case : (b : List ℕ) (c k : ℕ) → Fault b c (suc n) k → Case b c k)
    (of-case : (b : List ℕ) (c k : ℕ) → Case b c k → Fault b c (suc n) k)
    (s : List ℕ) (p : ℕ) where
  to_as : GivenField (suc n) s p → GivenAs (suc n) Case s p
  to_as g =
      let b = record_at s g.off in
      let c = g.colour in
      let x = to_first n b c g.k (kind_at g.due s g.off g.here g.whole) ((first_failure (fields b c) n g.k).1 g.first) in
      record {
        due = g.due;
        off = g.off;
        before = c;
        reached = g.reached;
        here = g.here;
        whole = g.whole;
        k = g.k;
        place = g.place;
        case = to-case b c g.k x.fault;
        none_lower = x.none_lower;
        none_earlier = λ j l y. x.none_earlier j l (of-case b c j y);
      }

  of_as : GivenAs (suc n) Case s p → GivenField (suc n) s p
  of_as g =
      let b = record_at s g.off in
      let c = g.before in
      let x : First (suc n) b c g.k = record { fault = of-case b c g.k g.case; none_lower = g.none_lower; none_earlier = λ j l f. g.none_earlier j l (to-case b c j f) } in
      record {
        due = g.due;
        off = g.off;
        colour = c;
        reached = g.reached;
        here = g.here;
        whole = g.whole;
        k = g.k;
        first = (first_failure (fields b c) n g.k).0 (of_first n b c g.k (kind_at g.due s g.off g.here g.whole) x);
        place = g.place;
      }

  pub field_as : GivenField (suc n) s p ↔ GivenAs (suc n) Case s p
  field_as = (to_as, of_as)

-- ---- which case a number has

-- (of other numbers there are no faults: what stands for them is not used)
unfoldable case_of : ℕ → List ℕ → ℕ → ℕ → Type 0
case_of n = cond (eqb n 3) TooMany (cond (eqb n 4) BadCode (cond (eqb n 5) NotFinite (cond (eqb n 6) Disordered ColourFalls)))

case_of_lem : {n : ℕ} (b : List ℕ) (c : ℕ) {k : ℕ} → Fault b c n k → case_of n b c k
unfolding case_of
case_of_lem b c (fault_3 x) = x
case_of_lem b c (fault_4 x) = x
case_of_lem b c (fault_5 x) = x
case_of_lem b c (fault_6 x) = x
case_of_lem b c (fault_7 x) = x

module _ (s : List ℕ) (p : ℕ) where
  pub field_3 : GivenField 3 s p ↔ Given3 s p
  unfolding case_of
  field_3 = field_as 2 TooMany (λ b c k. case_of_lem b c) (λ b c k. fault_3) s p

  pub field_4 : GivenField 4 s p ↔ Given4 s p
  unfolding case_of
  field_4 = field_as 3 BadCode (λ b c k. case_of_lem b c) (λ b c k. fault_4) s p

  pub field_5 : GivenField 5 s p ↔ Given5 s p
  unfolding case_of
  field_5 = field_as 4 NotFinite (λ b c k. case_of_lem b c) (λ b c k. fault_5) s p

  pub field_6 : GivenField 6 s p ↔ Given6 s p
  unfolding case_of
  field_6 = field_as 5 Disordered (λ b c k. case_of_lem b c) (λ b c k. fault_6) s p

  pub field_7 : GivenField 7 s p ↔ Given7 s p
  unfolding case_of
  field_7 = field_as 6 ColourFalls (λ b c k. case_of_lem b c) (λ b c k. fault_7) s p
