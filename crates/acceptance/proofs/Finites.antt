-- The floats of a good row are finite, a scalar row's two bounds apart, which are no NaN. Assumes nothing.
use Rattle.std.proofs.Common.{ℕ, zero, suc, ◌+◌, ◌*◌, ◌<◌, ◌≡◌, ap, ◌∙◌, subst, true, false, List, arith, add-zero}
use Rattle.std.specs.Float.Ieee.{is_nan}
use Rattle.std.proofs.lemmas.Bool.{not-false}
use Rattle.little_endian.specs.Bytes.{le16, f32_at, is_finite}
use Rattle.records.specs.Answers.{Passed}
use Rattle.records.specs.Fields.{finite, bound, run, scalar_codes, scalar_floats, elastic_codes, scalar_fields, corotational_fields}
use Rattle.records.specs.Fields.{neo_hookean_fields, fields}
use Rattle.records.proofs.Firsts.{passed_split}
use Rattle.records.proofs.ByKind.{fields_3, fields_4, fields_else}

-- float j of n that pass
pub run_finite : (b : List ℕ) (n k j : ℕ) → j < n → Passed (run (finite b) k n) → is_finite (f32_at b (k + 4 * j)) ≡ true
unfolding run finite Passed
run_finite b zero k j h p = absurd (omega arith)
run_finite b (suc n) k zero h p = ap (λ (i : ℕ). is_finite (f32_at b i)) (add-zero k) ∙ not-false _ p.0
run_finite b (suc n) k (suc j) h p = ap (λ (i : ℕ). is_finite (f32_at b i)) (omega arith) ∙ run_finite b n (k + 4) j (omega arith) p.1

-- the floats of each kind of row, from its first on
module _ (c : ℕ) (b : List ℕ) where
  floats_pass : le16 b 4 ≡ 3 → Passed (fields b c) → Passed (scalar_floats b)
  unfolding scalar_fields
  floats_pass k p = (passed_split (scalar_floats b) _ (passed_split (scalar_codes b) _ (subst Passed (fields_3 b c k) p)).1).0

  pub scalar_run : le16 b 4 ≡ 3 → Passed (fields b c) → Passed (run (finite b) 30 36)
  unfolding scalar_floats
  scalar_run k p = (passed_split (run (finite b) 30 36) _ (floats_pass k p)).0

  pub scalar_bounds : le16 b 4 ≡ 3 → Passed (fields b c) → (is_nan (f32_at b 174) ≡ false) × (is_nan (f32_at b 178) ≡ false)
  unfolding scalar_floats bound Passed
  scalar_bounds k p =
      let x = (passed_split (run (finite b) 30 36) _ (floats_pass k p)).1 in
      (x.0, x.1.0)

  pub corotational_run : le16 b 4 ≡ 4 → Passed (fields b c) → Passed (run (finite b) 30 147)
  unfolding corotational_fields
  corotational_run k p =
      let x = passed_split (elastic_codes b 1) _ (subst Passed (fields_4 b c k) p) in
      (passed_split (run (finite b) 30 147) _ x.1).0

  pub neo_run : le16 b 4 ≡ 5 → Passed (fields b c) → Passed (run (finite b) 30 162)
  unfolding neo_hookean_fields
  neo_run k p =
      let q = fields_else b c (λ z. omega arith) (λ z. omega arith) (λ z. omega arith) (λ z. omega arith) in
      let x = passed_split (elastic_codes b 0) _ (subst Passed q p) in
      (passed_split (run (finite b) 30 162) _ x.1).0
