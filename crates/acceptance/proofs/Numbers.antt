-- Which numbers a list of tests can give, and by which of two lists one is given. Assumes nothing.
use Rattle.std.proofs.Common.{ℕ, zero, suc, ◌+◌, ◌≤◌, ◌≡◌, refl, sym, ap, ◌∙◌, subst, Bool, true, false, cond, ◌⊎◌, inl, inr, ◌↔◌, List, []}
use Rattle.std.proofs.Common.{◌∷◌, ◌++◌, arith, eqb}
use Rattle.little_endian.specs.Bytes.{le16}
use Rattle.records.specs.declared.Answer.{Answer}
use Rattle.records.specs.declared.Due.{Due}
use Rattle.records.specs.Answers.{Test, number_of, refused, first_of, from, first_from, Passed}
use Rattle.records.specs.Fields.{limit16, limit32, code, finite, bound, ordered, cap, colour_from, run, head_fields, point_fields}
use Rattle.records.specs.Fields.{scalar_codes, scalar_floats, scalar_fields, elastic_codes, corotational_fields, neo_hookean_fields, fields}
use Rattle.records.specs.Records.{shape, record_tests, records_tests, record_at, record_length}
use Rattle.records.proofs.Firsts.{Zero}
use Rattle.clash.specs.Clash.{clash_tests, Key, key_of}
use Rattle.frame.specs.Check.{extra}
use Rattle.acceptance.specs.Given.{FirstFailure}

pub number_is : {a b c d : ℕ} → refused a b ≡ refused c d → a ≡ c
number_is e = ap (λ (x : Answer). x.number) e

pub place_is : {a b c d : ℕ} → refused a b ≡ refused c d → b ≡ d
place_is e = ap (λ (x : Answer). x.place) e

-- ---- of two lists

pub refused_not : {n p : ℕ} {a : Answer} → a ≡ refused (suc n) p → Zero a → ⊥
refused_not e z = let y : ◌≡◌ {A = ℕ} 0 _ = sym z ∙ ap (λ (x : Answer). x.number) e in omega arith

pub answer_split : (ts us : List Test) (n p : ℕ) → first_of (ts ++ us) ≡ refused (suc n) p
    → (first_of ts ≡ refused (suc n) p) ⊎ (Passed ts × (first_of us ≡ refused (suc n) p))
unfolding first_of Passed
answer_split [] us n p e = inr (tt, e)
answer_split (t ∷ ts) us n p e = go t.fails refl e (answer_split ts us n p)
  where
    go : (b : Bool) → t.fails ≡ b → cond b (refused (number_of t.refusal) t.place) (first_of (ts ++ us)) ≡ refused (suc n) p
        → (first_of (ts ++ us) ≡ refused (suc n) p → (first_of ts ≡ refused (suc n) p) ⊎ (Passed ts × (first_of us ≡ refused (suc n) p)))
        → (cond b (refused (number_of t.refusal) t.place) (first_of ts) ≡ refused (suc n) p) ⊎ (((t.fails ≡ false) × Passed ts) × (first_of us ≡ refused (suc n) p))
    go true f e ih = inl e
    go false f e ih = elim (ih e) [
      | inl x ↦ inl x
      | inr x ↦ inr ((f, x.0), x.1)
    ]

pub answer_left : (ts us : List Test) (n p : ℕ) → first_of ts ≡ refused (suc n) p → first_of (ts ++ us) ≡ refused (suc n) p
unfolding first_of
answer_left [] us n p e = absurd (refused_not e refl)
answer_left (t ∷ ts) us n p e = go t.fails e (answer_left ts us n p)
  where
    go : (b : Bool) → cond b (refused (number_of t.refusal) t.place) (first_of ts) ≡ refused (suc n) p
        → (first_of ts ≡ refused (suc n) p → first_of (ts ++ us) ≡ refused (suc n) p) → cond b (refused (number_of t.refusal) t.place) (first_of (ts ++ us)) ≡ refused (suc n) p
    go true e ih = e
    go false e ih = ih e

pub answer_right : (ts us : List Test) → Passed ts → first_of (ts ++ us) ≡ first_of us
unfolding first_of Passed
answer_right [] us p = refl
answer_right (t ∷ ts) us p = simp p.0 (answer_right ts us p.1)

to_failure : (n p : ℕ) (ts : List Test) → first_of ts ≡ refused (suc n) p → FirstFailure ts (suc n) p
unfolding first_of Passed
to_failure n p [] e = absurd (refused_not e refl)
to_failure n p (t ∷ ts) e = go t.fails refl e (to_failure n p ts)
  where
    go : (b : Bool) → t.fails ≡ b → cond b (refused (number_of t.refusal) t.place) (first_of ts) ≡ refused (suc n) p
        → (first_of ts ≡ refused (suc n) p → FirstFailure ts (suc n) p) → FirstFailure (t ∷ ts) (suc n) p
    go true f e ih = record { before = []; test = t; after = ts; split = refl; passed = tt; fails = f; number = number_is e; place = place_is e }
    go false f e ih = let x = ih e in
        record { before = t ∷ x.before; test = x.test; after = x.after; split = ap (t ∷◌) x.split; passed = (f, x.passed); fails = x.fails; number = x.number; place = x.place }

of_failure : (n p : ℕ) (ts : List Test) → FirstFailure ts (suc n) p → first_of ts ≡ refused (suc n) p
unfolding first_of
of_failure n p ts x =
    ap first_of x.split ∙ answer_right x.before (x.test ∷ x.after) x.passed ∙ simp x.fails (λ i. refused (x.number i) (x.place i))

-- the answer is that of the first failure
pub first_failure : (ts : List Test) (n p : ℕ) → first_of ts ≡ refused (suc n) p ↔ FirstFailure ts (suc n) p
first_failure ts n p = (to_failure n p ts, of_failure n p ts)

-- places that count from a record's start
pub answer_from : (off : ℕ) (ts : List Test) (n p : ℕ) → first_from off ts ≡ refused (suc n) p → (k : ℕ) × (first_of ts ≡ refused (suc n) k) × (p ≡ off + k)
unfolding first_of from
answer_from off [] n p e = absurd (refused_not e refl)
answer_from off (t ∷ ts) n p e = go t.fails e (answer_from off ts n p)
  where
    go : (b : Bool) → cond b (refused (number_of t.refusal) (off + t.place)) (first_from off ts) ≡ refused (suc n) p
        → (first_from off ts ≡ refused (suc n) p → (k : ℕ) × (first_of ts ≡ refused (suc n) k) × (p ≡ off + k))
        → (k : ℕ) × (cond b (refused (number_of t.refusal) t.place) (first_of ts) ≡ refused (suc n) k) × (p ≡ off + k)
    go true e ih = (t.place, (λ i. refused (number_is e i) t.place), sym (place_is e))
    go false e ih = ih e

pub from_answer : (off : ℕ) (ts : List Test) (n k : ℕ) → first_of ts ≡ refused (suc n) k → first_from off ts ≡ refused (suc n) (off + k)
unfolding first_of from
from_answer off [] n k e = absurd (refused_not e refl)
from_answer off (t ∷ ts) n k e = go t.fails e (from_answer off ts n k)
  where
    go : (b : Bool) → cond b (refused (number_of t.refusal) t.place) (first_of ts) ≡ refused (suc n) k → (first_of ts ≡ refused (suc n) k → first_from off ts ≡ refused (suc n) (off + k))
        → cond b (refused (number_of t.refusal) (off + t.place)) (first_from off ts) ≡ refused (suc n) (off + k)
    go true e ih = λ i. refused (number_is e i) (off + place_is e i)
    go false e ih = ih e

-- ---- numbers from lo to hi

unfoldable pub Within : ℕ → ℕ → List Test → Type 0
Within lo hi [] = Unit
Within lo hi (t ∷ ts) = (lo ≤ number_of t.refusal) × (number_of t.refusal ≤ hi) × Within lo hi ts

module _ (lo hi : ℕ) where
  within_append : (ts us : List Test) → Within lo hi ts → Within lo hi us → Within lo hi (ts ++ us)
  unfolding Within
  within_append [] us p q = q
  within_append (t ∷ ts) us p q = (p.0, p.1, within_append ts us p.2 q)

  within_from : (off : ℕ) (ts : List Test) → Within lo hi ts → Within lo hi (from off ts)
  unfolding Within from
  within_from off [] p = tt
  within_from off (t ∷ ts) p = (p.0, p.1, within_from off ts p.2)

  within_run : (t : ℕ → List Test) (k n : ℕ) → ((j : ℕ) → Within lo hi (t j)) → Within lo hi (run t k n)
  unfolding run Within
  within_run t k zero h = tt
  within_run t k (suc n) h = within_append (t k) _ (h k) (within_run t (k + 4) n h)

  within_wider : (a b : ℕ) (ts : List Test) → a ≤ lo → hi ≤ b → Within lo hi ts → Within a b ts
  unfolding Within
  within_wider a b [] h l p = tt
  within_wider a b (t ∷ ts) h l p = let x = p.0 in let y = p.1 in (omega arith, omega arith, within_wider a b ts h l p.2)

  pub within_answer : (ts : List Test) (n p : ℕ) → Within lo hi ts → first_of ts ≡ refused (suc n) p → (lo ≤ suc n) × (suc n ≤ hi)
  unfolding Within first_of
  within_answer [] n p w e = absurd (refused_not e refl)
  within_answer (t ∷ ts) n p w e = go t.fails e (within_answer ts n p w.2)
    where
      go : (b : Bool) → cond b (refused (number_of t.refusal) t.place) (first_of ts) ≡ refused (suc n) p → (first_of ts ≡ refused (suc n) p → (lo ≤ suc n) × (suc n ≤ hi)) → (lo ≤ suc n) × (suc n ≤ hi)
      go true e ih = (subst (lo ≤◌) (number_is e) w.0, subst (◌≤ hi) (number_is e) w.1)
      go false e ih = ih e

-- ---- the numbers of a record's tests

module _ (b : List ℕ) where
  limit16_in : (k m : ℕ) → Within 3 7 (limit16 b k m)
  unfolding limit16 Within
  limit16_in k m = (omega arith, omega arith, tt)

  limit32_in : (k m : ℕ) → Within 3 7 (limit32 b k m)
  unfolding limit32 Within
  limit32_in k m = (omega arith, omega arith, tt)

  code_in : (k m : ℕ) → Within 3 7 (code b k m)
  unfolding code Within
  code_in k m = (omega arith, omega arith, tt)

  finite_in : (k : ℕ) → Within 3 7 (finite b k)
  unfolding finite Within
  finite_in k = (omega arith, omega arith, tt)

  bound_in : (k : ℕ) → Within 3 7 (bound b k)
  unfolding bound Within
  bound_in k = (omega arith, omega arith, tt)

  ordered_in : (k : ℕ) → Within 3 7 (ordered b k)
  unfolding ordered Within
  ordered_in k = (omega arith, omega arith, tt)

  cap_in : (k : ℕ) → Within 3 7 (cap b k)
  unfolding cap Within
  cap_in k = (omega arith, omega arith, tt)

  colour_in : (c : ℕ) → Within 3 7 (colour_from b c)
  unfolding colour_from Within
  colour_in c = (omega arith, omega arith, tt)

  finites_in : (k n : ℕ) → Within 3 7 (run (finite b) k n)
  finites_in k n = within_run 3 7 (finite b) k n finite_in

  caps_in : (k n : ℕ) → Within 3 7 (run (cap b) k n)
  caps_in k n = within_run 3 7 (cap b) k n cap_in

  head_in : Within 3 7 (head_fields b)
  unfolding head_fields
  head_in = within_append 3 7 _ _ (within_append 3 7 _ _ (limit32_in 6 4096) (within_append 3 7 _ _ (limit32_in 10 4096) (limit16_in 16 64))) (within_append 3 7 _ _ (code_in 14 3) (finites_in 18 2))

  point_in_lem : Within 3 7 (point_fields b)
  unfolding point_fields
  point_in_lem = finites_in 6 6

  scalar_in : (c : ℕ) → Within 3 7 (scalar_fields b c)
  unfolding scalar_fields scalar_codes scalar_floats
  scalar_in c =
      within_append 3 7 _ _ (within_append 3 7 _ _ (limit16_in 12 4) (within_append 3 7 _ _ (code_in 8 1) (code_in 10 2)))
      (within_append 3 7 _ _ (within_append 3 7 _ _ (finites_in 30 36) (within_append 3 7 _ _ (bound_in 174) (bound_in 178)))
      (within_append 3 7 _ _ (ordered_in 174) (colour_in c)))

  codes_in : (last : ℕ) → Within 3 7 (elastic_codes b last)
  unfolding elastic_codes
  codes_in last = within_append 3 7 _ _ (code_in 8 1) (within_append 3 7 _ _ (code_in 10 1) (code_in 12 last))

  corotational_in : (c : ℕ) → Within 3 7 (corotational_fields b c)
  unfolding corotational_fields
  corotational_in c =
      within_append 3 7 _ _ (codes_in 1) (within_append 3 7 _ _ (finites_in 30 147)
      (within_append 3 7 _ _ (within_append 3 7 _ _ (caps_in 374 6) (cap_in 506)) (colour_in c)))

  neo_hookean_in : (c : ℕ) → Within 3 7 (neo_hookean_fields b c)
  unfolding neo_hookean_fields
  neo_hookean_in c = within_append 3 7 _ _ (codes_in 0) (within_append 3 7 _ _ (finites_in 30 162) (within_append 3 7 _ _ (caps_in 374 6) (colour_in c)))

  pub fields_in : (c : ℕ) → Within 3 7 (fields b c)
  unfolding fields
  fields_in c = go (eqb (le16 b 4) 1) (eqb (le16 b 4) 2) (eqb (le16 b 4) 3) (eqb (le16 b 4) 4)
    where
      go : (t u v w : Bool) → Within 3 7 (cond t (head_fields b) (cond u (point_fields b) (cond v (scalar_fields b c) (cond w (corotational_fields b c) (neo_hookean_fields b c)))))
      go true u v w = head_in
      go false true v w = point_in_lem
      go false false true w = scalar_in c
      go false false false true = corotational_in c
      go false false false false = neo_hookean_in c

pub shape_in : (w : Due) (s : List ℕ) (off : ℕ) → Within 1 2 (shape w s off)
unfolding shape Within
shape_in w s off = (omega arith, omega arith, (omega arith, omega arith, (omega arith, omega arith, tt)))

pub record_in : (w : Due) (s : List ℕ) (off c : ℕ) → Within 1 7 (record_tests w s off c)
unfolding record_tests
record_in w s off c =
    within_append 1 7 (shape w s off) _ (within_wider 1 2 1 7 _ (omega arith) (omega arith) (shape_in w s off))
    (within_from 1 7 off _ (within_wider 3 7 1 7 _ (omega arith) (omega arith) (fields_in (record_at s off) c)))

pub records_in : (w : Due) (k : ℕ) (s : List ℕ) (off c : ℕ) → Within 1 7 (records_tests w k s off c)
unfolding records_tests Within
records_in w zero s off c = tt
records_in w (suc k) s off c = within_append 1 7 (record_tests w s off c) _ (record_in w s off c) (records_in w k s (off + record_length s off) (le16 s (off + 6)))

pub extra_in : (s : List ℕ) → Within 8 8 (extra s)
unfolding extra Within
extra_in s = (omega arith, omega arith, tt)

pub clash_in : (N k : ℕ) (s : List ℕ) (off : ℕ) (before : List Key) → Within 9 9 (clash_tests N k s off before)
unfolding clash_tests Within
clash_in N zero s off before = tt
clash_in N (suc k) s off before = (omega arith, omega arith, clash_in N k s (off + record_length s off) (key_of (record_at s off) ∷ before))
