-- What the fields of a record that passes its tests hold. Assumes nothing.
use Rattle.std.proofs.Common.{ℕ, ◌≤◌, ◌≡◌, sym, subst, List, arith, le-ltb, ltb-false}
use Rattle.little_endian.specs.Bytes.{le16, le32}
use Rattle.records.specs.declared.Due.TheVariants.{Row}
use Rattle.records.specs.Answers.{Passed, ◌then◌}
use Rattle.records.specs.Fields.{limit16, limit32, code, colour_from, run, finite, ordered, cap, scalar_codes, scalar_floats, elastic_codes}
use Rattle.records.specs.Fields.{head_fields, scalar_fields, corotational_fields, neo_hookean_fields, fields}
use Rattle.records.proofs.Firsts.{passed_split, passed_join}
use Rattle.records.proofs.ByKind.{Kind, a_scalar, a_corotational, a_neo_hookean, fields_1, fields_3, fields_4, fields_else}

module _ (b : List ℕ) (k : ℕ) where
  limit16_is : (most : ℕ) → Passed (limit16 b k most) → le16 b k ≤ most
  unfolding limit16 Passed
  limit16_is most p = ltb-false most (le16 b k) p.0

  limit32_is : (most : ℕ) → Passed (limit32 b k most) → le32 b k ≤ most
  unfolding limit32 Passed
  limit32_is most p = ltb-false most (le32 b k) p.0

  code_is : (last : ℕ) → Passed (code b k last) → le16 b k ≤ last
  unfolding code Passed
  code_is last p = ltb-false last (le16 b k) p.0

colour_is : (b : List ℕ) (c : ℕ) → Passed (colour_from b c) → c ≤ le16 b 6
unfolding colour_from Passed
colour_is b c p = ltb-false (le16 b 6) c p.0

is_colour : (b : List ℕ) (c : ℕ) → c ≤ le16 b 6 → Passed (colour_from b c)
unfolding colour_from Passed
is_colour b c h = (le-ltb (le16 b 6) c h, tt)

-- ---- the head

pub record HeadValues (b : List ℕ) : Type 0 where
  pub few_points : le32 b 6 ≤ 4096
  pub few_rows : le32 b 10 ≤ 4096
  pub mode : le16 b 14 ≤ 3
  pub resweeps : le16 b 16 ≤ 64

pub head_values : (b : List ℕ) (c : ℕ) → le16 b 4 ≡ 1 → Passed (fields b c) → HeadValues b
unfolding head_fields
head_values b c k p =
    let x = passed_split (limit32 b 6 4096 then limit32 b 10 4096 then limit16 b 16 64) _ (subst Passed (fields_1 b c k) p) in
    let l = passed_split (limit32 b 6 4096) _ x.0 in
    let m = passed_split (limit32 b 10 4096) _ l.1 in
    record {
      few_points = limit32_is b 6 4096 l.0;
      few_rows = limit32_is b 10 4096 m.0;
      mode = code_is b 14 3 (passed_split (code b 14 3) _ x.1).0;
      resweeps = limit16_is b 16 64 m.1;
    }

-- ---- a row: the tests before the last are of the row alone, and the last is of its colour

module _ (b : List ℕ) where
  scalar_last : (c : ℕ) → Passed (scalar_fields b c) → (c ≤ le16 b 6) × ((d : ℕ) → d ≤ le16 b 6 → Passed (scalar_fields b d))
  unfolding scalar_fields
  scalar_last c p =
      let x = passed_split (scalar_codes b) _ p in
      let y = passed_split (scalar_floats b) _ x.1 in
      let z = passed_split (ordered b 174) _ y.1 in
      (colour_is b c z.1, λ d h. passed_join (scalar_codes b) _ x.0 (passed_join (scalar_floats b) _ y.0 (passed_join (ordered b 174) _ z.0 (is_colour b d h))))

  corotational_last : (c : ℕ) → Passed (corotational_fields b c) → (c ≤ le16 b 6) × ((d : ℕ) → d ≤ le16 b 6 → Passed (corotational_fields b d))
  unfolding corotational_fields
  corotational_last c p =
      let x = passed_split (elastic_codes b 1) _ p in
      let y = passed_split (run (finite b) 30 147) _ x.1 in
      let z = passed_split (run (cap b) 374 6 then cap b 506) _ y.1 in
      (colour_is b c z.1, λ d h. passed_join (elastic_codes b 1) _ x.0 (passed_join (run (finite b) 30 147) _ y.0 (passed_join (run (cap b) 374 6 then cap b 506) _ z.0 (is_colour b d h))))

  neo_hookean_last : (c : ℕ) → Passed (neo_hookean_fields b c) → (c ≤ le16 b 6) × ((d : ℕ) → d ≤ le16 b 6 → Passed (neo_hookean_fields b d))
  unfolding neo_hookean_fields
  neo_hookean_last c p =
      let x = passed_split (elastic_codes b 0) _ p in
      let y = passed_split (run (finite b) 30 162) _ x.1 in
      let z = passed_split (run (cap b) 374 6) _ y.1 in
      (colour_is b c z.1, λ d h. passed_join (elastic_codes b 0) _ x.0 (passed_join (run (finite b) 30 162) _ y.0 (passed_join (run (cap b) 374 6) _ z.0 (is_colour b d h))))

-- a row that passes after a row of colour c has no less a colour, and passes after a row of any colour that is not above its own
pub row_last : (b : List ℕ) (c : ℕ) {n : ℕ} → Kind Row (le16 b 4) n → Passed (fields b c) → (c ≤ le16 b 6) × ((d : ℕ) → d ≤ le16 b 6 → Passed (fields b d))
row_last b c (a_scalar k e) p =
    let x = scalar_last b c (subst Passed (fields_3 b c k) p) in
    (x.0, λ d h. subst Passed (sym (fields_3 b d k)) (x.1 d h))
row_last b c (a_corotational k e) p =
    let x = corotational_last b c (subst Passed (fields_4 b c k) p) in
    (x.0, λ d h. subst Passed (sym (fields_4 b d k)) (x.1 d h))
row_last b c (a_neo_hookean k e) p =
    let q : (d : ℕ) → fields b d ≡ neo_hookean_fields b d = λ d. fields_else b d (λ z. omega arith) (λ z. omega arith) (λ z. omega arith) (λ z. omega arith) in
    let x = neo_hookean_last b c (subst Passed (q c) p) in
    (x.0, λ d h. subst Passed (sym (q d)) (x.1 d h))

-- a scalar row names at most four points
pub scalar_count_lem : (b : List ℕ) (c : ℕ) → le16 b 4 ≡ 3 → Passed (fields b c) → le16 b 12 ≤ 4
unfolding scalar_fields scalar_codes
scalar_count_lem b c k p =
    let x = passed_split (scalar_codes b) _ (subst Passed (fields_3 b c k) p) in
    limit16_is b 12 4 (passed_split (limit16 b 12 4) _ x.0).0
