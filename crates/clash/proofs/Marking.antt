-- The mark of a point is the colour of the last row that named it. As colours never fall, a row clashes exactly where a point that it names
-- has the mark of its own colour. Assumes nothing.
use Rattle.std.proofs.Common.{ℕ, ◌≤◌, ◌<◌, ◌≡◌, refl, sym, ap, ◌∙◌, Bool, true, false, cond, not, ◌&&◌, ◌||◌, List, [], ◌∷◌, arith}
use Rattle.std.proofs.Common.{length, get_or, set, take, replicate, length-set, length-take, get_or-set_same, get_or-set_other, get_or-take}
use Rattle.std.proofs.Common.{ltb, eqb, eq-eqb, ne_eqb, lt-ltb, ltb-true, Option, Some, None}
use Rattle.std.proofs.Math.Decide.{ℕ_discrete}
use Rattle.std.proofs.lemmas.List.{length-replicate, get_or-replicate}
use Rattle.std.specs.Option.{option_eq}
use Rattle.little_endian.specs.Bytes.{le16}
use Rattle.clash.specs.Clash.{Key, key_of, any_of, named_by, clashes}
use Rattle.clash.specs.Marks.{names_of, named, marked_at, clashing, mark_with, mark_all, mark_row}
use Rattle.clash.proofs.Places.{any_named, colour_key, colour_names}

-- colours fall from c on, the latest row first
pub Below : List Key → ℕ → Type 0
Below [] c = Unit
Below (q ∷ qs) c = (q.colour ≤ c) × Below qs q.colour

pub below_any : (c : ℕ) → Below [] c
unfolding Below
below_any c = tt

pub below_cons : (q : Key) (qs : List Key) (c d : ℕ) → Below qs c → c ≤ q.colour → q.colour ≤ d → Below (q ∷ qs) d
unfolding Below
below_cons q [] c d b h l = (l, tt)
below_cons q (p ∷ qs) c d b h l = (l, (omega (arith, b.0), b.1))

pub below_more : (qs : List Key) (c d : ℕ) → Below qs c → c ≤ d → Below qs d
unfolding Below
below_more [] c d b h = tt
below_more (q ∷ qs) c d b h = (omega (arith, b.0), b.1)

pub mark_of : List Key → ℕ → Option ℕ
mark_of [] p = None
mark_of (q ∷ qs) p = cond (not (eqb q.colour 65535) && any_of (eqb p) q.ids) (Some q.colour) (mark_of qs p)

none_named : (qs : List Key) (c d x : ℕ) → Below qs d → d < c → any_of (named_by c x) qs ≡ false
unfolding Below named_by any_of
none_named [] c d x b h = refl
none_named (q ∷ qs) c d x b h =
    let e = b.0 in
    simp (ne_eqb q.colour c (λ z. omega arith), none_named qs c q.colour x b.1 (omega arith))

and_no : (t : Bool) → (t && false) ≡ false
and_no true = refl
and_no false = refl

named_mark : (qs : List Key) (c x : ℕ) → Below qs c → c < 65535 → any_of (named_by c x) qs ≡ option_eq eqb (mark_of qs x) (Some c)
unfolding Below named_by mark_of any_of
named_mark [] c x b h = refl
named_mark (q ∷ qs) c x b h = go (any_of (eqb x) q.ids) refl (λ d. named_mark qs c x d h)
  where
    le : q.colour ≤ c
    le = b.0

    go : (t : Bool) → any_of (eqb x) q.ids ≡ t → (Below qs c → any_of (named_by c x) qs ≡ option_eq eqb (mark_of qs x) (Some c)) → any_of (named_by c x) (q ∷ qs) ≡ option_eq eqb (mark_of (q ∷ qs) x) (Some c)
    go false e ih =
        let more = ih (below_more qs q.colour c b.1 le) in
        let z1 : (eqb q.colour c && false) ≡ false = and_no (eqb q.colour c) in
        let z2 : (not (eqb q.colour 65535) && false) ≡ false = and_no (not (eqb q.colour 65535)) in
        simp (e, z1, z2) more
    go true e ih = elim (ℕ_discrete q.colour c) [
      | yes f ↦ simp (e, eq-eqb q.colour c f, ne_eqb q.colour 65535 (λ z. omega arith)) refl
      | no f ↦ simp (e, ne_eqb q.colour c f, ne_eqb q.colour 65535 (λ z. omega arith), none_named qs c q.colour x b.1 (omega arith)) refl
    ]

-- the marks of n points after the rows qs, the latest first
pub record Marked (n : ℕ) (ms : List (Option ℕ)) (qs : List Key) : Type 0 where
  pub size : length ms ≡ n
  pub marks : (p : ℕ) → p < n → get_or ms p None ≡ mark_of qs p

pub no_marks : (n : ℕ) → n ≤ 4096 → Marked n (take n (replicate 4096 None)) []
unfolding mark_of
no_marks n h =
    let l = length-replicate {A = Option ℕ} 4096 None in
    record {
      size = length-take n (replicate 4096 None) ∙ omega arith;
      marks = λ p b. get_or-take n (replicate 4096 None) p None b ∙ get_or-replicate {A = Option ℕ} 4096 p None None (omega arith);
    }

-- ---- the test

any_same : (t u : ℕ → Bool) (l : List ℕ) → ((x : ℕ) → t x ≡ u x) → any_of t l ≡ any_of u l
unfolding any_of
any_same t u [] h = refl
any_same t u (x ∷ l) h = simp (h x, any_same t u l h)

module _ (n : ℕ) (ms : List (Option ℕ)) (qs : List Key) (c : ℕ) (w : Marked n ms qs) (b : Below qs c) (h : c < 65535) where
  marked_is : (id : ℕ) → marked_at ms c id ≡ (ltb id n && any_of (named_by c id) qs)
  unfolding marked_at
  marked_is id = rw w.size (go (ltb id n) refl)
    where
      go : (t : Bool) → ltb id n ≡ t → (t && option_eq eqb (get_or ms id None) (Some c)) ≡ (t && any_of (named_by c id) qs)
      go true e = ap (λ (m : Option ℕ). option_eq eqb m (Some c)) (w.marks id (ltb-true id n e)) ∙ sym (named_mark qs c id b h)
      go false e = refl

  marked_any : (r : List ℕ) → any_of (named (marked_at ms c)) (names_of r).ids ≡ any_of (λ x. ltb x n && any_of (named_by c x) qs) (key_of r).ids
  marked_any r = any_named (marked_at ms c) r ∙ any_same _ _ (key_of r).ids marked_is

pub clashing_is : (n : ℕ) (ms : List (Option ℕ)) (qs : List Key) (r : List ℕ) → Marked n ms qs → Below qs (le16 r 6) → le16 r 6 < 65536
    → clashing ms (names_of r) ≡ clashes n qs (key_of r)
unfolding clashing clashes
clashing_is n ms qs r w b h = elim (ℕ_discrete (le16 r 6) 65535) [
  | yes e ↦ simp (colour_names r, colour_key r, eq-eqb (le16 r 6) 65535 e)
  | no e ↦ simp (colour_names r, colour_key r, ne_eqb (le16 r 6) 65535 e, marked_any n ms qs (le16 r 6) w b (omega arith) r)
]

-- ---- the marks after

with_size : (ms : List (Option ℕ)) (c : ℕ) (id : Option ℕ) → length (mark_with ms c id) ≡ length ms
unfolding mark_with
with_size ms c None = refl
with_size ms c (Some id) = go (ltb id (length ms))
  where
    go : (t : Bool) → length (cond t (set ms id (Some c)) ms) ≡ length ms
    go true = length-set ms id (Some c)
    go false = refl

with_at : (ms : List (Option ℕ)) (c : ℕ) (id : Option ℕ) (p : ℕ) → p < length ms → get_or (mark_with ms c id) p None ≡ cond (named (eqb p) id) (Some c) (get_or ms p None)
unfolding mark_with
with_at ms c None p l = refl
with_at ms c (Some id) p l = elim (ℕ_discrete p id) [
  | yes e ↦ simp (eq-eqb p id e, lt-ltb id (length ms) (omega arith)) (ap (λ (k : ℕ). get_or (set ms id (Some c)) k None) e ∙ get_or-set_same ms id (Some c) None (omega arith))
  | no e ↦ simp (ne_eqb p id e) (go (ltb id (length ms)) e)
]
  where
    go : (t : Bool) → (p ≡ id → ⊥) → get_or (cond t (set ms id (Some c)) ms) p None ≡ get_or ms p None
    go true e = get_or-set_other ms id p (Some c) None e
    go false e = refl

all_size : (ids ms : List (Option ℕ)) (c : ℕ) → length (mark_all ms c ids) ≡ length ms
unfolding mark_all
all_size [] ms c = refl
all_size (id ∷ ids) ms c = all_size ids (mark_with ms c id) c ∙ with_size ms c id

cond_or : {A : Type 0} (t u : Bool) (m x : A) → cond u m (cond t m x) ≡ cond (t || u) m x
cond_or true true m x = refl
cond_or true false m x = refl
cond_or false true m x = refl
cond_or false false m x = refl

all_at : (ids ms : List (Option ℕ)) (c p : ℕ) → p < length ms → get_or (mark_all ms c ids) p None ≡ cond (any_of (named (eqb p)) ids) (Some c) (get_or ms p None)
unfolding mark_all any_of
all_at [] ms c p l = refl
all_at (id ∷ ids) ms c p l =
    all_at ids (mark_with ms c id) c p (omega (arith, with_size ms c id))
    ∙ ap (λ (x : Option ℕ). cond (any_of (named (eqb p)) ids) (Some c) x) (with_at ms c id p l)
    ∙ cond_or (named (eqb p) id) (any_of (named (eqb p)) ids) (Some c) (get_or ms p None)

pub marked_row : (n : ℕ) (ms : List (Option ℕ)) (qs : List Key) (r : List ℕ) → Marked n ms qs → Marked n (mark_row ms (names_of r)) (key_of r ∷ qs)
unfolding mark_row mark_of
marked_row n ms qs r w = elim (ℕ_discrete (le16 r 6) 65535) [
  | yes e ↦ record { size = simp (colour_names r, eq-eqb (le16 r 6) 65535 e) w.size; marks = λ p l. simp (colour_names r, colour_key r, eq-eqb (le16 r 6) 65535 e) (w.marks p l) }
  | no e ↦ (
      let z = w.size in
      record {
        size = simp (colour_names r, ne_eqb (le16 r 6) 65535 e) (all_size (names_of r).ids ms (le16 r 6) ∙ z);
        marks = λ p l. simp (colour_names r, colour_key r, ne_eqb (le16 r 6) 65535 e)
            (all_at (names_of r).ids ms (le16 r 6) p (omega arith)
            ∙ ap (λ (t : Bool). cond t (Some (le16 r 6)) (get_or ms p None)) (any_named (eqb p) r)
            ∙ ap (λ (x : Option ℕ). cond (any_of (eqb p) (key_of r).ids) (Some (le16 r 6)) x) (w.marks p l));
      })
]
