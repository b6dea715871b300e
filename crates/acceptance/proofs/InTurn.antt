-- The tests of a record's fields stand in turn, and those that fail are the record's faults. Assumes nothing.
use Rattle.std.proofs.Common.{ℕ, ◌+◌, ◌*◌, ◌<◌, ◌≡◌, refl, sym, ap, subst, Bool, true, false, not, cond, inl, inr, List, arith, eqb, take}
use Rattle.std.proofs.Common.{drop, lt-ltb, ltb-true}
use Rattle.std.specs.Float.Ieee.{binary32, of_bits, lt, is_nan}
use Rattle.std.proofs.lemmas.Bool.{not-true}
use Rattle.little_endian.specs.Bytes.{le16, le32, f32_at, is_finite}
use Rattle.records.specs.declared.Due.{Due}
use Rattle.records.specs.Answers.{Test}
use Rattle.records.specs.Fields.{limit16, limit32, code, finite, bound, ordered, cap, colour_from, run, head_fields, point_fields}
use Rattle.records.specs.Fields.{scalar_codes, scalar_floats, scalar_fields, elastic_codes, corotational_fields, neo_hookean_fields, fields}
use Rattle.records.proofs.ByKind.{Kind, a_head, a_point, a_scalar, a_corotational, a_neo_hookean, fields_1, fields_2, fields_3, fields_4}
use Rattle.records.proofs.ByKind.{fields_else}
use Rattle.acceptance.specs.Faults.{Is, IsElastic, IsRow, Among, FloatAt, Fault, points, rows, resweeps, count, mode, strained, type}
use Rattle.acceptance.specs.Faults.{inverted, volumetric, zero_code, of_head, of_point, of_scalar, of_corotational, of_neo_hookean, float}
use Rattle.acceptance.specs.Faults.{lower, upper, bounds, strain_cap, vol_cap, colour, fault_3, fault_4, fault_5, fault_6, fault_7}
use Rattle.acceptance.proofs.Earliest.{Has, Each, has_part, has_run, each_append, each_run, in_turn}

-- ---- in turn: computed, whatever the bytes are

pub fields_in_turn : (b : List ℕ) (c : ℕ) → in_turn 0 (fields b c) ≡ true
unfolding in_turn fields head_fields point_fields scalar_fields scalar_codes scalar_floats elastic_codes corotational_fields neo_hookean_fields limit16 limit32 code finite bound ordered cap colour_from run
fields_in_turn b c = go (eqb (le16 b 4) 1) (eqb (le16 b 4) 2) (eqb (le16 b 4) 3) (eqb (le16 b 4) 4)
  where
    go : (t u v w : Bool) → in_turn 0 (cond t (head_fields b) (cond u (point_fields b) (cond v (scalar_fields b c) (cond w (corotational_fields b c) (neo_hookean_fields b c))))) ≡ true
    go true u v w = refl
    go false true v w = refl
    go false false true w = refl
    go false false false true = refl
    go false false false false = refl

-- ---- what fails is a fault

module _ (b : List ℕ) (c : ℕ) where
  abbrev F : ℕ → ℕ → Type 0
  F = Fault b c

  limit16_is : (k m : ℕ) → (m < le16 b k → F 3 k) → Each F (limit16 b k m)
  unfolding limit16 Each
  limit16_is k m f = (λ e. f (ltb-true m (le16 b k) e), tt)

  limit32_is : (k m : ℕ) → (m < le32 b k → F 3 k) → Each F (limit32 b k m)
  unfolding limit32 Each
  limit32_is k m f = (λ e. f (ltb-true m (le32 b k) e), tt)

  code_is : (k m : ℕ) → (m < le16 b k → F 4 k) → Each F (code b k m)
  unfolding code Each
  code_is k m f = (λ e. f (ltb-true m (le16 b k) e), tt)

  bound_is : (k : ℕ) → (is_nan (f32_at b k) ≡ true → F 5 k) → Each F (bound b k)
  unfolding bound Each
  bound_is k f = (f, tt)

  ordered_is : Is b 3 → Each F (ordered b 174)
  unfolding ordered Each
  ordered_is h = (λ e. fault_6 (bounds h e), tt)

  cap_is : (k : ℕ) → (lt (f32_at b k) (of_bits binary32 0) ≡ true → F 6 k) → Each F (cap b k)
  unfolding cap Each
  cap_is k f = (f, tt)

  colour_is : IsRow b → Each F (colour_from b c)
  unfolding colour_from Each
  colour_is h = (λ e. fault_7 (colour h (ltb-true (le16 b 6) c e)), tt)

  finites_are : (a n : ℕ) → ((k : ℕ) → Among a (a + 4 * n) k → FloatAt b k) → Each F (run (finite b) a n)
  unfolding finite Each
  finites_are a n h = each_run F (finite b) a n (λ j i l e. (λ f. fault_5 (float (h j (record { i = i; at = e; inside = omega arith })) (not-true _ f)), tt))

  caps_are : IsElastic b → Each F (run (cap b) 374 6)
  caps_are h = each_run F (cap b) 374 6 (λ j i l e. cap_is j (λ f. fault_6 (strain_cap h (record { i = i; at = e; inside = omega arith }) f)))

  head_are : Is b 1 → Each F (head_fields b)
  unfolding head_fields
  head_are h =
      each_append F _ _ (each_append F _ _ (limit32_is 6 4096 (λ x. fault_3 (points h x))) (each_append F _ _ (limit32_is 10 4096 (λ x. fault_3 (rows h x))) (limit16_is 16 64 (λ x. fault_3 (resweeps h x)))))
      (each_append F _ _ (code_is 14 3 (λ x. fault_4 (mode h x))) (finites_are 18 2 (λ k. of_head h)))

  point_are : Is b 2 → Each F (point_fields b)
  unfolding point_fields
  point_are h = finites_are 6 6 (λ k. of_point h)

  scalar_are : Is b 3 → Each F (scalar_fields b c)
  unfolding scalar_fields scalar_codes scalar_floats
  scalar_are h =
      each_append F _ _ (each_append F _ _ (limit16_is 12 4 (λ x. fault_3 (count h x))) (each_append F _ _ (code_is 8 1 (λ x. fault_4 (strained (inl h) x))) (code_is 10 2 (λ x. fault_4 (type h x)))))
      (each_append F _ _ (each_append F _ _ (finites_are 30 36 (λ k. of_scalar h)) (each_append F _ _ (bound_is 174 (λ x. fault_5 (lower h x))) (bound_is 178 (λ x. fault_5 (upper h x)))))
      (each_append F _ _ (ordered_is h) (colour_is (inl h))))

  codes_are : IsElastic b → (last : ℕ) → (last < le16 b 12 → F 4 12) → Each F (elastic_codes b last)
  unfolding elastic_codes
  codes_are h last f = each_append F _ _ (code_is 8 1 (λ x. fault_4 (strained (inr h) x))) (each_append F _ _ (code_is 10 1 (λ x. fault_4 (inverted h x))) (code_is 12 last f))

  corotational_are : Is b 4 → Each F (corotational_fields b c)
  unfolding corotational_fields
  corotational_are h =
      each_append F _ _ (codes_are (inl h) 1 (λ x. fault_4 (volumetric h x))) (each_append F _ _ (finites_are 30 147 (λ k. of_corotational h))
      (each_append F _ _ (each_append F _ _ (caps_are (inl h)) (cap_is 506 (λ x. fault_6 (vol_cap h x)))) (colour_is (inr (inl h)))))

  neo_hookean_are : Is b 5 → Each F (neo_hookean_fields b c)
  unfolding neo_hookean_fields
  neo_hookean_are h =
      each_append F _ _ (codes_are (inr h) 0 (λ x. fault_4 (zero_code h x))) (each_append F _ _ (finites_are 30 162 (λ k. of_neo_hookean h))
      (each_append F _ _ (caps_are (inr h)) (colour_is (inr (inr h)))))

  fields_5 : Is b 5 → fields b c ≡ neo_hookean_fields b c
  fields_5 h = fields_else b c (λ z. omega arith) (λ z. omega arith) (λ z. omega arith) (λ z. omega arith)

  pub fields_are : {w : Due} {n : ℕ} → Kind w (le16 b 4) n → Each F (fields b c)
  fields_are (a_head h l) = subst (Each F) (sym (fields_1 b c h)) (head_are h)
  fields_are (a_point h l) = subst (Each F) (sym (fields_2 b c h)) (point_are h)
  fields_are (a_scalar h l) = subst (Each F) (sym (fields_3 b c h)) (scalar_are h)
  fields_are (a_corotational h l) = subst (Each F) (sym (fields_4 b c h)) (corotational_are h)
  fields_are (a_neo_hookean h l) = subst (Each F) (sym (fields_5 h)) (neo_hookean_are h)

-- ---- and a fault fails

module _ (b : List ℕ) (c : ℕ) where
  limit16_has : (k m : ℕ) → m < le16 b k → Has 3 k (limit16 b k m)
  unfolding limit16 Has
  limit16_has k m h = inl (lt-ltb m (le16 b k) h, refl, refl)

  limit32_has : (k m : ℕ) → m < le32 b k → Has 3 k (limit32 b k m)
  unfolding limit32 Has
  limit32_has k m h = inl (lt-ltb m (le32 b k) h, refl, refl)

  code_has : (k m : ℕ) → m < le16 b k → Has 4 k (code b k m)
  unfolding code Has
  code_has k m h = inl (lt-ltb m (le16 b k) h, refl, refl)

  finites_have : (a n k : ℕ) → Among a (a + 4 * n) k → is_finite (f32_at b k) ≡ false → Has 5 k (run (finite b) a n)
  unfolding finite Has
  finites_have a n k x e = has_run 5 k (finite b) a n k x.i (let at = x.at in let inside = x.inside in omega arith) x.at (inl (ap not e, refl, refl))

  bound_has : (k : ℕ) → is_nan (f32_at b k) ≡ true → Has 5 k (bound b k)
  unfolding bound Has
  bound_has k e = inl (e, refl, refl)

  ordered_has : lt (f32_at b 178) (f32_at b 174) ≡ true → Has 6 174 (ordered b 174)
  unfolding ordered Has
  ordered_has e = inl (e, refl, refl)

  cap_has : (k : ℕ) → lt (f32_at b k) (of_bits binary32 0) ≡ true → Has 6 k (cap b k)
  unfolding cap Has
  cap_has k e = inl (e, refl, refl)

  caps_have : (k : ℕ) → Among 374 398 k → lt (f32_at b k) (of_bits binary32 0) ≡ true → Has 6 k (run (cap b) 374 6)
  caps_have k x e = has_run 6 k (cap b) 374 6 k x.i (let at = x.at in let inside = x.inside in omega arith) x.at (cap_has k e)

  colour_has : le16 b 6 < c → Has 7 6 (colour_from b c)
  unfolding colour_from Has
  colour_has h = inl (lt-ltb (le16 b 6) c h, refl, refl)

  -- by kind: the m tests from number i on of that kind's
  in_head : (n k i m : ℕ) (us : List Test) → Is b 1 → us ≡ take m (drop i (head_fields b)) → Has n k us → Has n k (fields b c)
  in_head n k i m us h e x = subst (Has n k) (sym (fields_1 b c h)) (has_part n k i m (head_fields b) us e x)

  in_point : (n k i m : ℕ) (us : List Test) → Is b 2 → us ≡ take m (drop i (point_fields b)) → Has n k us → Has n k (fields b c)
  in_point n k i m us h e x = subst (Has n k) (sym (fields_2 b c h)) (has_part n k i m (point_fields b) us e x)

  in_scalar : (n k i m : ℕ) (us : List Test) → Is b 3 → us ≡ take m (drop i (scalar_fields b c)) → Has n k us → Has n k (fields b c)
  in_scalar n k i m us h e x = subst (Has n k) (sym (fields_3 b c h)) (has_part n k i m (scalar_fields b c) us e x)

  in_corotational : (n k i m : ℕ) (us : List Test) → Is b 4 → us ≡ take m (drop i (corotational_fields b c)) → Has n k us → Has n k (fields b c)
  in_corotational n k i m us h e x = subst (Has n k) (sym (fields_4 b c h)) (has_part n k i m (corotational_fields b c) us e x)

  in_neo_hookean : (n k i m : ℕ) (us : List Test) → Is b 5 → us ≡ take m (drop i (neo_hookean_fields b c)) → Has n k us → Has n k (fields b c)
  in_neo_hookean n k i m us h e x = subst (Has n k) (sym (fields_5 b c h)) (has_part n k i m (neo_hookean_fields b c) us e x)

  pub fault_fails : {n k : ℕ} → Fault b c n k → Has n k (fields b c)
  unfolding head_fields point_fields scalar_fields scalar_codes scalar_floats elastic_codes corotational_fields neo_hookean_fields limit16 limit32 code finite bound ordered cap colour_from run
  fault_fails (fault_3 (points h x)) = in_head 3 6 0 1 _ h refl (limit32_has 6 4096 x)
  fault_fails (fault_3 (rows h x)) = in_head 3 10 1 1 _ h refl (limit32_has 10 4096 x)
  fault_fails (fault_3 (resweeps h x)) = in_head 3 16 2 1 _ h refl (limit16_has 16 64 x)
  fault_fails (fault_3 (count h x)) = in_scalar 3 12 0 1 _ h refl (limit16_has 12 4 x)
  fault_fails (fault_4 (mode h x)) = in_head 4 14 3 1 _ h refl (code_has 14 3 x)
  fault_fails (fault_4 (strained (inl h) x)) = in_scalar 4 8 1 1 _ h refl (code_has 8 1 x)
  fault_fails (fault_4 (strained (inr (inl h)) x)) = in_corotational 4 8 0 1 _ h refl (code_has 8 1 x)
  fault_fails (fault_4 (strained (inr (inr h)) x)) = in_neo_hookean 4 8 0 1 _ h refl (code_has 8 1 x)
  fault_fails (fault_4 (type h x)) = in_scalar 4 10 2 1 _ h refl (code_has 10 2 x)
  fault_fails (fault_4 (inverted (inl h) x)) = in_corotational 4 10 1 1 _ h refl (code_has 10 1 x)
  fault_fails (fault_4 (inverted (inr h) x)) = in_neo_hookean 4 10 1 1 _ h refl (code_has 10 1 x)
  fault_fails (fault_4 (volumetric h x)) = in_corotational 4 12 2 1 _ h refl (code_has 12 1 x)
  fault_fails (fault_4 (zero_code h x)) = in_neo_hookean 4 12 2 1 _ h refl (code_has 12 0 x)
  fault_fails {k = k} (fault_5 (float (of_head h x) e)) = in_head 5 k 4 2 _ h refl (finites_have 18 2 k x e)
  fault_fails {k = k} (fault_5 (float (of_point h x) e)) = in_point 5 k 0 6 _ h refl (finites_have 6 6 k x e)
  fault_fails {k = k} (fault_5 (float (of_scalar h x) e)) = in_scalar 5 k 3 36 _ h refl (finites_have 30 36 k x e)
  fault_fails {k = k} (fault_5 (float (of_corotational h x) e)) = in_corotational 5 k 3 147 _ h refl (finites_have 30 147 k x e)
  fault_fails {k = k} (fault_5 (float (of_neo_hookean h x) e)) = in_neo_hookean 5 k 3 162 _ h refl (finites_have 30 162 k x e)
  fault_fails (fault_5 (lower h e)) = in_scalar 5 174 39 1 _ h refl (bound_has 174 e)
  fault_fails (fault_5 (upper h e)) = in_scalar 5 178 40 1 _ h refl (bound_has 178 e)
  fault_fails (fault_6 (bounds h e)) = in_scalar 6 174 41 1 _ h refl (ordered_has e)
  fault_fails {k = k} (fault_6 (strain_cap (inl h) x e)) = in_corotational 6 k 150 6 _ h refl (caps_have k x e)
  fault_fails {k = k} (fault_6 (strain_cap (inr h) x e)) = in_neo_hookean 6 k 165 6 _ h refl (caps_have k x e)
  fault_fails (fault_6 (vol_cap h e)) = in_corotational 6 506 156 1 _ h refl (cap_has 506 e)
  fault_fails (fault_7 (colour (inl h) x)) = in_scalar 7 6 42 1 _ h refl (colour_has x)
  fault_fails (fault_7 (colour (inr (inl h)) x)) = in_corotational 7 6 157 1 _ h refl (colour_has x)
  fault_fails (fault_7 (colour (inr (inr h)) x)) = in_neo_hookean 7 6 171 1 _ h refl (colour_has x)
