-- Which row is refused with 9: the first that clashes with an earlier one. Assumes nothing.
use Rattle.std.proofs.Common.{ℕ, zero, suc, ◌+◌, ◌<◌, suc-le-suc, ◌≡◌, refl, sym, ap, ◌∙◌, subst, Bool, true, false, not, cond, ◌||◌, ◌⊎◌}
use Rattle.std.proofs.Common.{inl, inr, List, [], ◌∷◌, arith, not-suc-le-zero, le_of_suc-le-suc, ltb, eqb, eq-eqb, ltb-true, eqb-true}
use mathlib.Core.List.Memᴰ
use mathlib.Core.List.{Memᴰ}
use Rattle.records.specs.Answers.{refused, first_of}
use Rattle.records.specs.Records.{record_length, record_at, end_of}
use Rattle.records.proofs.ByKind.{and_both}
use Rattle.clash.specs.Clash.{Key, key_of, any_of, named_by, clashes, clash_tests}
use Rattle.acceptance.specs.Given.{Meet}
use Rattle.acceptance.proofs.Numbers.{refused_not, place_is}
use Rattle.acceptance.proofs.Pairs.{Apart, clash_apart, apart_clash}

-- ---- the test of one row

any_yes : {A : Type 0} (t : A → Bool) (l : List A) → any_of t l ≡ true → (x : A) × Memᴰ x l × (t x ≡ true)
unfolding any_of
any_yes t [] e = absurd (let z : ◌≡◌ {A = Bool} false true = e in let y : ◌≡◌ {A = ℕ} 0 1 = cc in omega arith)
any_yes t (y ∷ l) e = go (t y) refl e (any_yes t l)
  where
    go : (b : Bool) → t y ≡ b → (b || any_of t l) ≡ true → (any_of t l ≡ true → (x : _) × Memᴰ x l × (t x ≡ true)) → (x : _) × Memᴰ x (y ∷ l) × (t x ≡ true)
    go true p e ih = (y, Memᴰ.head refl, p)
    go false p e ih = let r = ih e in (r.0, Memᴰ.tail r.1, r.2)

clash_meet : (N : ℕ) (before : List Key) (k : Key) → clashes N before k ≡ true → (q : Key) × Memᴰ q before × Meet N q k
unfolding clashes named_by
clash_meet N before k e =
    let a = and_both (not (eqb k.colour 65535)) _ e in
    let x = any_yes _ k.ids a.1 in
    let b = and_both (ltb x.0 N) _ x.2 in
    let q = any_yes _ before b.1 in
    let c = and_both (eqb q.0.colour k.colour) _ q.2 in
    let i = any_yes (eqb x.0) q.0.ids c.1 in (
      q.0,
      q.1,
      record {
        one_colour = eqb-true _ _ c.0;
        coloured = λ z. let f : ◌≡◌ {A = Bool} false true = sym (ap not (eq-eqb k.colour 65535 z)) ∙ a.0 in let y : ◌≡◌ {A = ℕ} 0 1 = cc in omega arith;
        x = x.0;
        within_range = ltb-true x.0 N b.0;
        earlier = subst (λ (j : ℕ). Memᴰ j q.0.ids) (sym (eqb-true x.0 i.0 i.2)) i.1;
        later = x.1;
      },
    )

pub meet_not : (N : ℕ) (q k : Key) → Apart N q k → Meet N q k → ⊥
meet_not N q k a m = a m.one_colour m.coloured m.x m.within_range m.later m.earlier

pub not_meet : (N : ℕ) (q k : Key) → (Meet N q k → ⊥) → Apart N q k
not_meet N q k h c o x l mk mq = h (record { one_colour = c; coloured = o; x = x; within_range = l; earlier = mq; later = mk })

meet_clash : (N : ℕ) (before : List Key) (q k : Key) → Memᴰ q before → Meet N q k → clashes N before k ≡ true
meet_clash N before q k m x = go (clashes N before k) refl
  where
    go : (b : Bool) → clashes N before k ≡ b → b ≡ true
    go true e = refl
    go false e = absurd (meet_not N q k (clash_apart N before k e q m) x)

-- ---- the keys of the rows before row i, the latest first

unfoldable keys_before : ℕ → List ℕ → ℕ → List Key → List Key
keys_before zero s off before = before
keys_before (suc i) s off before = keys_before i s (off + record_length s off) (key_of (record_at s off) ∷ before)

abbrev key : List ℕ → ℕ → ℕ → Key
key s off i = key_of (record_at s (end_of i s off))

mem_key : (i : ℕ) (s : List ℕ) (off : ℕ) (before : List Key) (q : Key) → Memᴰ q (keys_before i s off before) → ((j : ℕ) × (j < i) × (q ≡ key s off j)) ⊎ Memᴰ q before
unfolding keys_before end_of
mem_key zero s off before q m = inr m
mem_key (suc i) s off before q m = elim (mem_key i s (off + record_length s off) (key_of (record_at s off) ∷ before) q m) [
  | inl x ↦ inl (suc x.0, suc-le-suc x.1, x.2)
  | inr y ↦ (elim (Memᴰ.cases_cons y) [ inl e ↦ inl (0, omega arith, e) | inr z ↦ inr z ])
]

mem_before : (i : ℕ) (s : List ℕ) (off : ℕ) (before : List Key) (q : Key) → Memᴰ q before → Memᴰ q (keys_before i s off before)
unfolding keys_before
mem_before zero s off before q m = m
mem_before (suc i) s off before q m = mem_before i s (off + record_length s off) (key_of (record_at s off) ∷ before) q (Memᴰ.tail m)

key_mem : (j i : ℕ) (s : List ℕ) (off : ℕ) (before : List Key) → j < i → Memᴰ (key s off j) (keys_before i s off before)
unfolding keys_before end_of
key_mem j zero s off before h = absurd (not-suc-le-zero h)
key_mem zero (suc i) s off before h = mem_before i s (off + record_length s off) (key_of (record_at s off) ∷ before) (key_of (record_at s off)) (Memᴰ.head refl)
key_mem (suc j) (suc i) s off before h = key_mem j i s (off + record_length s off) (key_of (record_at s off) ∷ before) (le_of_suc-le-suc h)

-- ---- the rows

module _ (N : ℕ) (s : List ℕ) where
  -- a row that is refused, and the tests before it
  find : (k off : ℕ) (before : List Key) (n p : ℕ) → first_of (clash_tests N k s off before) ≡ refused (suc n) p
      → (i : ℕ) × (i < k) × (p ≡ end_of i s off) × (clashes N (keys_before i s off before) (key s off i) ≡ true) × ((m : ℕ) → m < i → clashes N (keys_before m s off before) (key s off m) ≡ false)
  unfolding clash_tests first_of keys_before end_of
  find zero off before n p e = absurd (refused_not e refl)
  find (suc k) off before n p e = go (clashes N before (key_of (record_at s off))) refl e (find k (off + record_length s off) (key_of (record_at s off) ∷ before) n p)
    where
      earlier : clashes N before (key_of (record_at s off)) ≡ false → (i : ℕ)
          → ((m : ℕ) → m < i → clashes N (keys_before m s (off + record_length s off) (key_of (record_at s off) ∷ before)) (key s (off + record_length s off) m) ≡ false)
          → (m : ℕ) → m < suc i → clashes N (keys_before m s off before) (key s off m) ≡ false
      earlier f i g zero h = f
      earlier f i g (suc m) h = g m (le_of_suc-le-suc h)

      go : (b : Bool) → clashes N before (key_of (record_at s off)) ≡ b → cond b (refused 9 off) (first_of (clash_tests N k s (off + record_length s off) (key_of (record_at s off) ∷ before))) ≡ refused (suc n) p
          → (first_of (clash_tests N k s (off + record_length s off) (key_of (record_at s off) ∷ before)) ≡ refused (suc n) p
          → (i : ℕ) × (i < k) × (p ≡ end_of i s (off + record_length s off)) × (clashes N (keys_before i s (off + record_length s off) (key_of (record_at s off) ∷ before)) (key s (off + record_length s off) i) ≡ true)
          × ((m : ℕ) → m < i → clashes N (keys_before m s (off + record_length s off) (key_of (record_at s off) ∷ before)) (key s (off + record_length s off) m) ≡ false))
          → (i : ℕ) × (i < suc k) × (p ≡ end_of i s off) × (clashes N (keys_before i s off before) (key s off i) ≡ true) × ((m : ℕ) → m < i → clashes N (keys_before m s off before) (key s off m) ≡ false)
      go true f e ih = (0, omega arith, sym (place_is e), f, λ m h. absurd (not-suc-le-zero h))
      go false f e ih = let x = ih e in (suc x.0, suc-le-suc x.1, x.2, x.3, earlier f x.0 x.4)

  give : (i k off : ℕ) (before : List Key) → i < k → clashes N (keys_before i s off before) (key s off i) ≡ true
      → ((m : ℕ) → m < i → clashes N (keys_before m s off before) (key s off m) ≡ false) → first_of (clash_tests N k s off before) ≡ refused 9 (end_of i s off)
  unfolding clash_tests first_of keys_before end_of
  give i zero off before h c f = absurd (not-suc-le-zero h)
  give zero (suc k) off before h c f = simp c
  give (suc i) (suc k) off before h c f =
      simp (f 0 (omega arith)) (give i k (off + record_length s off) (key_of (record_at s off) ∷ before) (le_of_suc-le-suc h) c (λ m l. f (suc m) (suc-le-suc l)))

-- in the words of the table
pub to_meet : (N k : ℕ) (s : List ℕ) (off n p : ℕ) → first_of (clash_tests N k s off []) ≡ refused (suc n) p
    → (i : ℕ) × (i < k) × (p ≡ end_of i s off) × ((j : ℕ) × (j < i) × Meet N (key s off j) (key s off i)) × ((m n : ℕ) → m < n → n < i → Meet N (key s off m) (key s off n) → ⊥)
to_meet N k s off n p e =
    let x = find N s k off [] n p e in
    let q = clash_meet N (keys_before x.0 s off []) (key s off x.0) x.3 in (
      x.0,
      x.1,
      x.2,
      (elim (mem_key x.0 s off [] q.0 q.1) [
        | inl j ↦ (j.0, j.1, subst (λ (r : Key). Meet N r (key s off x.0)) j.2 q.2)
        | inr y ↦ absurd (Memᴰ.not-nil y)
      ]),
      λ a b h l. meet_not N (key s off a) (key s off b) (clash_apart N (keys_before b s off []) (key s off b) (x.4 b l) (key s off a) (key_mem a b s off [] h)),
    )

pub of_meet : (N k : ℕ) (s : List ℕ) (off i j : ℕ) → i < k → j < i → Meet N (key s off j) (key s off i)
    → ((m n : ℕ) → m < n → n < i → Meet N (key s off m) (key s off n) → ⊥) → first_of (clash_tests N k s off []) ≡ refused 9 (end_of i s off)
of_meet N k s off i j h l m f = give N s i k off [] h (meet_clash N (keys_before i s off []) (key s off j) (key s off i) (key_mem j i s off [] l) m) none
  where
    none : (b : ℕ) → b < i → clashes N (keys_before b s off []) (key s off b) ≡ false
    none b hb = apart_clash N (keys_before b s off []) (key s off b) (λ q mq. elim (mem_key b s off [] q mq) [
      | inl a ↦ subst (λ (r : Key). Apart N r (key s off b)) (sym a.2) (not_meet N (key s off a.0) (key s off b) (f a.0 b a.1 hb))
      | inr y ↦ absurd (Memᴰ.not-nil y)
    ])
