-- WHEN EACH NUMBER IS GIVEN: in its case, and in no other. Assumes nothing.
use Rattle.std.proofs.Common.{ℕ, suc, ◌+◌, ◌≤◌, ◌<◌, ◌≡◌, refl, sym, ap, ◌∙◌, subst, Bool, true, false, cond, not, ◌⊎◌, inl, inr, ◌↔◌, List}
use Rattle.std.proofs.Common.{[], arith, length, ltb, lt-ltb, le-ltb, ltb-true, ltb-false}
use Rattle.little_endian.specs.Bytes.{le16, le32}
use Rattle.records.specs.declared.Due.{Due}
use Rattle.records.specs.Answers.{refused, accepted, first_of}
use Rattle.records.specs.Fields.{fields}
use Rattle.records.specs.Records.{is_due, record_length, record_at, shape, record_tests}
use Rattle.records.proofs.Shapes.{Shaped, shaped, shape_passes}
use Rattle.frame.specs.Frames.{count_n, count_r, rows_at, rows_end}
use Rattle.frame.specs.Check.{extra, check_of}
use Rattle.acceptance.specs.Whole.{Whole}
use Rattle.acceptance.specs.Given.{Given1, Given2, GivenField, Given8, Given9}
use Rattle.acceptance.specs.Faults.{Given3, Given4, Given5, Given6, Given7}
use Rattle.acceptance.proofs.Numbers.{number_is, place_is, refused_not, answer_split, answer_left, answer_right, first_failure, answer_from}
use Rattle.acceptance.proofs.Numbers.{from_answer, within_answer, shape_in, fields_in, extra_in, clash_in}
use Rattle.acceptance.proofs.Wholes.{accepted_whole, whole_accepted, no_extra, extra_passes}
use Rattle.acceptance.proofs.Reaching.{to_record, of_record, to_last, of_last}
use Rattle.acceptance.proofs.Meets.{to_meet, of_meet}
use Rattle.acceptance.proofs.Cases.{shape_of, field_3, field_4, field_5, field_6, field_7}

-- ---- one record

module _ (w : Due) (s : List ℕ) (off c : ℕ) where
  -- the answer is that of the shape, or the shape is right and the answer is that of the fields
  parts : (n p : ℕ) → first_of (record_tests w s off c) ≡ refused (suc n) p
      → (first_of (shape w s off) ≡ refused (suc n) p) ⊎ (Shaped w s off × ((k : ℕ) × (first_of (fields (record_at s off) c) ≡ refused (suc n) k) × (p ≡ off + k)))
  unfolding record_tests
  parts n p e = elim (answer_split (shape w s off) _ n p e) [
    | inl a ↦ inl a
    | inr a ↦ inr (shaped w s off a.0, answer_from off (fields (record_at s off) c) n p a.1)
  ]

  in_fields : (n k : ℕ) → first_of (fields (record_at s off) c) ≡ refused (suc n) k → (3 ≤ suc n) × (suc n ≤ 7)
  in_fields n k e = within_answer 3 7 _ n k (fields_in (record_at s off) c) e

  abbrev Cut : Type 0
  Cut = (length s < off + 6) ⊎ ((off + 6 ≤ length s) × (is_due w (le16 s (off + 4)) (le32 s off) ≡ true) × (length s < off + record_length s off))

  cut : (p : ℕ) → first_of (shape w s off) ≡ refused 1 p → (p ≡ off) × Cut
  unfolding shape first_of
  cut p e = go (ltb (length s) (off + 6)) refl (is_due w (le16 s (off + 4)) (le32 s off)) refl (ltb (length s) (off + record_length s off)) refl e
    where
      go : (a : Bool) → ltb (length s) (off + 6) ≡ a → (b : Bool) → is_due w (le16 s (off + 4)) (le32 s off) ≡ b → (d : Bool) → ltb (length s) (off + record_length s off) ≡ d
          → cond a (refused 1 off) (cond (not b) (refused 2 off) (cond d (refused 1 off) accepted)) ≡ refused 1 p → (p ≡ off) × Cut
      go true f b g d h e = (sym (place_is e), inl (ltb-true (length s) (off + 6) f))
      go false f false g d h e = absurd (let z = number_is e in omega arith)
      go false f true g true h e = (sym (place_is e), inr (ltb-false (length s) (off + 6) f, g, ltb-true (length s) (off + record_length s off) h))
      go false f true g false h e = absurd (refused_not e refl)

  of_cut : Cut → first_of (shape w s off) ≡ refused 1 off
  unfolding shape first_of
  of_cut (inl h) = simp (lt-ltb (length s) (off + 6) h)
  of_cut (inr h) = simp (le-ltb (length s) (off + 6) h.0, h.1, lt-ltb (length s) (off + record_length s off) h.2)

  abbrev Other : Type 0
  Other = (off + 6 ≤ length s) × (is_due w (le16 s (off + 4)) (le32 s off) ≡ false)

  other : (p : ℕ) → first_of (shape w s off) ≡ refused 2 p → (p ≡ off) × Other
  unfolding shape first_of
  other p e = go (ltb (length s) (off + 6)) refl (is_due w (le16 s (off + 4)) (le32 s off)) refl (ltb (length s) (off + record_length s off)) refl e
    where
      go : (a : Bool) → ltb (length s) (off + 6) ≡ a → (b : Bool) → is_due w (le16 s (off + 4)) (le32 s off) ≡ b → (d : Bool) → ltb (length s) (off + record_length s off) ≡ d
          → cond a (refused 1 off) (cond (not b) (refused 2 off) (cond d (refused 1 off) accepted)) ≡ refused 2 p → (p ≡ off) × Other
      go true f b g d h e = absurd (let z = number_is e in omega arith)
      go false f false g d h e = (sym (place_is e), (ltb-false (length s) (off + 6) f, g))
      go false f true g true h e = absurd (let z = number_is e in omega arith)
      go false f true g false h e = absurd (refused_not e refl)

  of_other : Other → first_of (shape w s off) ≡ refused 2 off
  unfolding shape first_of
  of_other h = simp (le-ltb (length s) (off + 6) h.0, h.1)

  by_shape : (n p : ℕ) → first_of (shape w s off) ≡ refused (suc n) p → first_of (record_tests w s off c) ≡ refused (suc n) p
  unfolding record_tests
  by_shape n p e = answer_left (shape w s off) _ n p e

  by_fields : (n k : ℕ) → Shaped w s off → first_of (fields (record_at s off) c) ≡ refused (suc n) k → first_of (record_tests w s off c) ≡ refused (suc n) (off + k)
  unfolding record_tests
  by_fields n k x e = answer_right (shape w s off) _ (shape_passes w s off x) ∙ from_answer off (fields (record_at s off) c) n k e

extra_is : (s : List ℕ) (p : ℕ) → first_of (extra s) ≡ refused 8 p → (p ≡ rows_end s) × (rows_end s < length s)
unfolding extra first_of
extra_is s p e = go (ltb (rows_end s) (length s)) refl e
  where
    go : (b : Bool) → ltb (rows_end s) (length s) ≡ b → cond b (refused 8 (rows_end s)) accepted ≡ refused 8 p → (p ≡ rows_end s) × (rows_end s < length s)
    go true f e = (sym (place_is e), ltb-true (rows_end s) (length s) f)
    go false f e = absurd (refused_not e refl)

is_extra : (s : List ℕ) (p : ℕ) → p ≡ rows_end s → rows_end s < length s → first_of (extra s) ≡ refused 8 p
unfolding extra first_of
is_extra s p e h = simp (lt-ltb (rows_end s) (length s) h) (ap (refused 8) (sym e))

through : {A B C : Type 0} → A ↔ B → B ↔ C → A ↔ C
through p q = (λ x. q.0 (p.0 x), λ z. p.1 (q.1 z))

-- ---- THE THEOREMS

module _ (s : List ℕ) (p : ℕ) where
  -- 0 exactly for the accepted
  pub given_0 : check_of s ≡ accepted ↔ Whole s
  given_0 = (accepted_whole s, whole_accepted s)

  pub given_1 : check_of s ≡ refused 1 p ↔ Given1 s p
  given_1 = (to, back)
    where
      to : check_of s ≡ refused 1 p → Given1 s p
      to e = let x = to_record s 0 p (omega arith) e in
          elim (parts x.due s x.off x.colour 0 p x.refuses) [
            | inl a ↦ (let y = cut x.due s x.off x.colour p a in
                subst (Given1 s) (sym y.0) (record { due = x.due; colour = x.colour; reached = x.reached; cut = y.1 }))
            | inr a ↦ absurd (omega (arith, in_fields x.due s x.off x.colour 0 a.1.0 a.1.1))
          ]

      back : Given1 s p → check_of s ≡ refused 1 p
      back g = of_record s 0 p (record {
        due = g.due;
        off = p;
        colour = g.colour;
        reached = g.reached;
        refuses = by_shape g.due s p g.colour 0 p (of_cut g.due s p g.colour g.cut);
      })

  pub given_2 : check_of s ≡ refused 2 p ↔ Given2 s p
  given_2 = (to, back)
    where
      to : check_of s ≡ refused 2 p → Given2 s p
      to e = let x = to_record s 1 p (omega arith) e in
          elim (parts x.due s x.off x.colour 1 p x.refuses) [
            | inl a ↦ (let y = other x.due s x.off x.colour p a in
                subst (Given2 s) (sym y.0) (record { due = x.due; colour = x.colour; reached = x.reached; six = y.1.0; other = y.1.1 }))
            | inr a ↦ absurd (omega (arith, in_fields x.due s x.off x.colour 1 a.1.0 a.1.1))
          ]

      back : Given2 s p → check_of s ≡ refused 2 p
      back g = of_record s 1 p (record {
        due = g.due;
        off = p;
        colour = g.colour;
        reached = g.reached;
        refuses = by_shape g.due s p g.colour 1 p (of_other g.due s p g.colour (g.six, g.other));
      })

  -- 3 to 7: the tests of a record's fields
  pub given_field : (n : ℕ) → 3 ≤ suc n → suc n ≤ 7 → check_of s ≡ refused (suc n) p ↔ GivenField (suc n) s p
  given_field n lo hi = (to, back)
    where
      to : check_of s ≡ refused (suc n) p → GivenField (suc n) s p
      to e = let x = to_record s n p hi e in
          elim (parts x.due s x.off x.colour n p x.refuses) [
            | inl a ↦ absurd (omega (arith, within_answer 1 2 _ n p (shape_in x.due s x.off) a))
            | inr a ↦ record {
              due = x.due;
              off = x.off;
              colour = x.colour;
              reached = x.reached;
              here = a.0.due;
              whole = a.0.whole;
              k = a.1.0;
              first = (first_failure _ n a.1.0).0 a.1.1;
              place = a.1.2;
            }
          ]

      back : GivenField (suc n) s p → check_of s ≡ refused (suc n) p
      back g = of_record s n p (record {
        due = g.due;
        off = g.off;
        colour = g.colour;
        reached = g.reached;
        refuses = by_fields g.due s g.off g.colour n g.k (shape_of g.due s g.off g.here g.whole) ((first_failure _ n g.k).1 g.first) ∙ ap (refused (suc n)) (sym g.place);
      })

  -- and so, in the table's words
  pub given_3 : check_of s ≡ refused 3 p ↔ Given3 s p
  given_3 = through (given_field 2 (omega arith) (omega arith)) (field_3 s p)

  pub given_4 : check_of s ≡ refused 4 p ↔ Given4 s p
  given_4 = through (given_field 3 (omega arith) (omega arith)) (field_4 s p)

  pub given_5 : check_of s ≡ refused 5 p ↔ Given5 s p
  given_5 = through (given_field 4 (omega arith) (omega arith)) (field_5 s p)

  pub given_6 : check_of s ≡ refused 6 p ↔ Given6 s p
  given_6 = through (given_field 5 (omega arith) (omega arith)) (field_6 s p)

  pub given_7 : check_of s ≡ refused 7 p ↔ Given7 s p
  given_7 = through (given_field 6 (omega arith) (omega arith)) (field_7 s p)

  pub given_8 : check_of s ≡ refused 8 p ↔ Given8 s p
  given_8 = (to, back)
    where
      to : check_of s ≡ refused 8 p → Given8 s p
      to e = let x = to_last s 7 p (omega arith) e in
          elim (answer_split (extra s) _ 7 p x.1) [
            | inl a ↦ (let y = extra_is s p a in record { all_pass = x.0; place = y.0; more = y.1 })
            | inr a ↦ absurd (omega (arith, within_answer 9 9 _ 7 p (clash_in (count_n s) (count_r s) s (rows_at s) []) a.1))
          ]

      back : Given8 s p → check_of s ≡ refused 8 p
      back g = of_last s 7 p g.all_pass (answer_left (extra s) _ 7 p (is_extra s p g.place g.more))

  pub given_9 : check_of s ≡ refused 9 p ↔ Given9 s p
  given_9 = (to, back)
    where
      to : check_of s ≡ refused 9 p → Given9 s p
      to e = let x = to_last s 8 p (omega arith) e in
          elim (answer_split (extra s) _ 8 p x.1) [
            | inl a ↦ absurd (omega (arith, within_answer 8 8 _ 8 p (extra_in s) a))
            | inr a ↦ (let y = to_meet (count_n s) (count_r s) s (rows_at s) 8 p a.1 in
                record {
                  all_pass = x.0;
                  no_more = no_extra s a.0;
                  i = y.0;
                  is_row = y.1;
                  place = y.2;
                  j = y.3.0;
                  before = y.3.1;
                  clash = y.3.2;
                  none_earlier = y.4;
                })
          ]

      back : Given9 s p → check_of s ≡ refused 9 p
      back g = of_last s 8 p g.all_pass
          (answer_right (extra s) _ (extra_passes s g.no_more)
          ∙ of_meet (count_n s) (count_r s) s (rows_at s) g.i g.j g.is_row g.before g.clash g.none_earlier ∙ ap (refused 9) (sym g.place))
