-- What check's tests on one row after another say of each two rows, and back. Assumes nothing.
use Rattle.std.proofs.Common.{ℕ, zero, suc, ◌≤◌, ◌<◌, suc-le-suc, ◌≡◌, refl, sym, ap, ◌∙◌, subst, Bool, true, false, not, ◌&&◌, ◌||◌, ◌⊎◌}
use Rattle.std.proofs.Common.{inl, inr, ◌≢◌, List, [], ◌∷◌, arith, not-suc-le-zero, le_of_suc-le-suc, ltb, eqb, length, eq-eqb, ne_eqb}
use Rattle.std.proofs.Common.{lt-ltb, ltb-true, eqb-true}
use Rattle.std.proofs.Math.Decide.{ℕ_discrete}
use Rattle.std.proofs.lemmas.Bool.{eqb-false}
use mathlib.Core.List.Memᴰ
use mathlib.Core.List.{Memᴰ}
use Rattle.little_endian.specs.Bytes.{le16}
use Rattle.records.specs.declared.Due.TheVariants.{Row}
use Rattle.records.proofs.Values.{row_last}
use Rattle.clash.specs.Clash.{Key, key_of, any_of, named_by, clashes}
use Rattle.acceptance.specs.Whole.{row, colour_of, Good, Chain, Free}
use Rattle.acceptance.proofs.Parsing.{good_kind}

-- ---- clashes

-- two rows of these keys do not clash: where they are of one colour, not the overflow, they name no point in range in common
abbrev pub Apart : ℕ → Key → Key → Type 0
Apart N q k = q.colour ≡ k.colour → k.colour ≢ 65535 → (x : ℕ) → x < N → Memᴰ x k.ids → Memᴰ x q.ids → ⊥

no_any : {A : Type 0} (t : A → Bool) (l : List A) → any_of t l ≡ false → (x : A) → Memᴰ x l → t x ≡ false
unfolding any_of
no_any t [] e x m = absurd (Memᴰ.not-nil m)
no_any t (y ∷ l) e x m = go (t y) refl e (Memᴰ.cases_cons m) (λ e. no_any t l e x)
  where
    go : (b : Bool) → t y ≡ b → (b || any_of t l) ≡ false → (x ≡ y) ⊎ Memᴰ x l → (any_of t l ≡ false → Memᴰ x l → t x ≡ false) → t x ≡ false
    go false p e (inl q) ih = ap t q ∙ p
    go false p e (inr m) ih = ih e m
    go true p e s ih = let z : ◌≡◌ {A = Bool} true false = e in cc

any_no : {A : Type 0} (t : A → Bool) (l : List A) → ((x : A) → Memᴰ x l → t x ≡ false) → any_of t l ≡ false
unfolding any_of
any_no t [] h = refl
any_no t (y ∷ l) h = simp (h y (Memᴰ.head refl)) (any_no t l (λ x m. h x (Memᴰ.tail m)))

pub clash_apart : (N : ℕ) (before : List Key) (k : Key) → clashes N before k ≡ false → (q : Key) → Memᴰ q before → Apart N q k
unfolding clashes named_by
clash_apart N before k e q m c o x h mk mq =
    let e1 : any_of (λ x. ltb x N && any_of (named_by k.colour x) before) k.ids ≡ false =
    ap (λ (t : Bool). not t && any_of (λ x. ltb x N && any_of (named_by k.colour x) before) k.ids) (sym (ne_eqb k.colour 65535 o)) ∙ e in
    let e2 : any_of (named_by k.colour x) before ≡ false =
    ap (λ (t : Bool). t && any_of (named_by k.colour x) before) (sym (lt-ltb x N h)) ∙ no_any (λ x. ltb x N && any_of (named_by k.colour x) before) k.ids e1 x mk in
    let e3 : any_of (eqb x) q.ids ≡ false =
    ap (λ (t : Bool). t && any_of (eqb x) q.ids) (sym (eq-eqb q.colour k.colour c)) ∙ no_any (named_by k.colour x) before e2 q m in
    eqb-false x x (no_any (eqb x) q.ids e3 x mq) refl

pub apart_clash : (N : ℕ) (before : List Key) (k : Key) → ((q : Key) → Memᴰ q before → Apart N q k) → clashes N before k ≡ false
unfolding clashes named_by
apart_clash N before k h = elim (ℕ_discrete k.colour 65535) [
  | yes e ↦ simp (eq-eqb k.colour 65535 e)
  | no o ↦ simp (ne_eqb k.colour 65535 o) (any_no _ k.ids (λ x m. at x m (ltb x N) refl o))
]
  where
    same : (x : ℕ) (q : Key) → Memᴰ q before → (x < N) → Memᴰ x k.ids → k.colour ≢ 65535 → (t : Bool) → eqb q.colour k.colour ≡ t → (t && any_of (eqb x) q.ids) ≡ false
    same x q mq l mk o true e = any_no (eqb x) q.ids (λ y my. ne_eqb x y (λ z. h q mq (eqb-true _ _ e) o x l mk (subst (λ (i : ℕ). Memᴰ i q.ids) (sym z) my)))
    same x q mq l mk o false e = refl

    at : (x : ℕ) → Memᴰ x k.ids → (t : Bool) → ltb x N ≡ t → k.colour ≢ 65535 → (t && any_of (named_by k.colour x) before) ≡ false
    at x m false e o = refl
    at x m true e o = any_no (named_by k.colour x) before (λ q mq. same x q mq (ltb-true x N e) m o (eqb q.colour k.colour) refl)

abbrev pub key_at : List (List ℕ) → ℕ → Key
key_at bs n = key_of (row bs n)

free_before : (N : ℕ) (before : List Key) (bs : List (List ℕ)) → Free N before bs → (q : Key) → Memᴰ q before → (n : ℕ) → n < length bs → Apart N q (key_at bs n)
unfolding Free
free_before N before [] f q m n h = absurd (not-suc-le-zero h)
free_before N before (b ∷ bs) f q m zero h = clash_apart N before (key_of b) f.0 q m
free_before N before (b ∷ bs) f q m (suc n) h = free_before N (key_of b ∷ before) bs f.1 q (Memᴰ.tail m) n (le_of_suc-le-suc h)

pub free_apart : (N : ℕ) (before : List Key) (bs : List (List ℕ)) → Free N before bs → (m n : ℕ) → m < n → n < length bs → Apart N (key_at bs m) (key_at bs n)
unfolding Free
free_apart N before [] f m n l h = absurd (not-suc-le-zero h)
free_apart N before (b ∷ bs) f m zero l h = absurd (not-suc-le-zero l)
free_apart N before (b ∷ bs) f zero (suc n) l h = free_before N (key_of b ∷ before) bs f.1 (key_of b) (Memᴰ.head refl) n (le_of_suc-le-suc h)
free_apart N before (b ∷ bs) f (suc m) (suc n) l h = free_apart N (key_of b ∷ before) bs f.1 m n (le_of_suc-le-suc l) (le_of_suc-le-suc h)

pub apart_free : (N : ℕ) (before : List Key) (bs : List (List ℕ)) → ((q : Key) → Memᴰ q before → (n : ℕ) → n < length bs → Apart N q (key_at bs n))
    → ((m n : ℕ) → m < n → n < length bs → Apart N (key_at bs m) (key_at bs n)) → Free N before bs
unfolding Free
apart_free N before [] f g = tt
apart_free N before (b ∷ bs) f g = (
  apart_clash N before (key_of b) (λ q m. f q m 0 (omega arith)),
  apart_free N (key_of b ∷ before) bs (λ q m. on q (Memᴰ.cases_cons m)) (λ m n l h. g (suc m) (suc n) (suc-le-suc l) (suc-le-suc h)),
)
  where
    on : (q : Key) → (q ≡ key_of b) ⊎ Memᴰ q before → (n : ℕ) → n < length bs → Apart N q (key_at bs n)
    on q (inl e) n h = subst (λ (x : Key). Apart N x (key_at bs n)) (sym e) (g 0 (suc n) (omega arith) (suc-le-suc h))
    on q (inr m) n h = f q m (suc n) (suc-le-suc h)

-- ---- colours

-- a good row's colour is not below the one before, and the row is good after any colour that is not above its own
good_colour : (c : ℕ) (b : List ℕ) → Good Row c b → c ≤ le16 b 6
good_colour c b g = (row_last b c (good_kind Row c b g) g.passed).0

good_after : (c d : ℕ) (b : List ℕ) → Good Row c b → d ≤ le16 b 6 → Good Row d b
good_after c d b g h = record { size = g.size; due = g.due; passed = (row_last b c (good_kind Row c b g) g.passed).1 d h }

-- row by row: good by itself, after a row of colour 0
pub good_at : (c : ℕ) (bs : List (List ℕ)) → Chain Row c bs → (n : ℕ) → n < length bs → Good Row 0 (row bs n)
unfolding Chain
good_at c [] g n h = absurd (not-suc-le-zero h)
good_at c (b ∷ bs) g zero h = good_after c 0 b g.0 (omega arith)
good_at c (b ∷ bs) g (suc n) h = good_at (le16 b 6) bs g.1 n (le_of_suc-le-suc h)

least : (c : ℕ) (bs : List (List ℕ)) → Chain Row c bs → (n : ℕ) → n < length bs → c ≤ colour_of bs n
unfolding Chain
least c [] g n h = absurd (not-suc-le-zero h)
least c (b ∷ bs) g zero h = good_colour c b g.0
least c (b ∷ bs) g (suc n) h = omega (arith, good_colour c b g.0, least (le16 b 6) bs g.1 n (le_of_suc-le-suc h))

pub rising_at : (c : ℕ) (bs : List (List ℕ)) → Chain Row c bs → (m n : ℕ) → m < n → n < length bs → colour_of bs m ≤ colour_of bs n
unfolding Chain
rising_at c [] g m n l h = absurd (not-suc-le-zero h)
rising_at c (b ∷ bs) g m zero l h = absurd (not-suc-le-zero l)
rising_at c (b ∷ bs) g zero (suc n) l h = least (le16 b 6) bs g.1 n (le_of_suc-le-suc h)
rising_at c (b ∷ bs) g (suc m) (suc n) l h = rising_at (le16 b 6) bs g.1 m n (le_of_suc-le-suc l) (le_of_suc-le-suc h)

pub chain_of : (c : ℕ) (bs : List (List ℕ)) → ((n : ℕ) → n < length bs → Good Row 0 (row bs n)) → ((n : ℕ) → n < length bs → c ≤ colour_of bs n)
    → ((m n : ℕ) → m < n → n < length bs → colour_of bs m ≤ colour_of bs n) → Chain Row c bs
unfolding Chain
chain_of c [] g l r = tt
chain_of c (b ∷ bs) g l r = (
  good_after 0 c b (g 0 (omega arith)) (l 0 (omega arith)),
  chain_of (le16 b 6) bs (λ n h. g (suc n) (suc-le-suc h)) (λ n h. r 0 (suc n) (omega arith) (suc-le-suc h)) (λ m n a h. r (suc m) (suc n) (suc-le-suc a) (suc-le-suc h)),
)
