-- Local steps from local steps: nothing; one after another; by a test of the row. And the form that every row function has: fetch what the named
-- points hold, compute from the row and that alone, and then alter the points of a list one by one.
-- Assumes nothing.
use Rattle.std.proofs.Common.{◌≡◌, refl, Bool, true, false, ◌≢◌, ℕ, zero, suc, sym, ap, ◌∙◌, subst, inl, inr, arith, List, [], ◌∷◌}
use Rattle.std.proofs.Math.Option.{Option, none, some}
use Rattle.std.proofs.Math.Decide.{ℕ_discrete}
use mathlib.Core.List.Memᴰ
use mathlib.Core.List.{Memᴰ}
use Rattle.std.proofs.Math.ListN.{get_elem?}
use Rattle.relisting.specs.Access.{Access, Agree, Local}
use Rattle.relisting.specs.Steps.{◌then◌, pick, choose, nothing, fetch, alter, alters}

module _ {R S P K : Type 0} (F : Access R S P K) where
  pub nothing_local : Local F nothing
  nothing_local = record {
    row = λ r s t a. refl;
    put = λ r s t a p w. a p (F.written_read r p w);
    keep = λ r s p n. refl;
    same = λ r s. refl;
  }

  pub after : (f : R → S → R × S) → Local F f → (r : R) (s t : S) → Agree F (F.key r) s t → Agree F (F.key r) (f r s).1 (f r t).1
  after f L r s t a p rd = elim (F.writes? (F.key r) p) [
    | yes w ↦ L.put r s t a p w
    | no n ↦ L.keep r s p n ∙ a p rd ∙ sym (L.keep r t p n)
  ]

  pub then_local : (f g : R → S → R × S) → Local F f → Local F g → Local F (f then g)
  then_local f g L M = record {
    row = λ r s t a. M.row (f r s).0 (f r s).1 (f r t).1 (more r s t a) ∙ ap (λ (x : R). (g x (f r t).1).0) (L.row r s t a);
    put = λ r s t a p w.
        M.put (f r s).0 (f r s).1 (f r t).1 (more r s t a) p (rw L.same w)
        ∙ ap (λ (x : R). F.get (g x (f r t).1).1 p) (L.row r s t a);
    keep = λ r s p n. M.keep (f r s).0 (f r s).1 p (rw L.same n) ∙ L.keep r s p n;
    same = λ r s. M.same (f r s).0 (f r s).1 ∙ L.same r s;
  }
    where
      more : (r : R) (s t : S) → Agree F (F.key r) s t → Agree F (F.key (f r s).0) (f r s).1 (f r t).1
      more r s t a = rw L.same (after f L r s t a)

  pub choose_local : (c : R → Bool) (f g : R → S → R × S) → Local F f → Local F g → Local F (choose c f g)
  choose_local c f g L M = record {
    row = λ r. (one (c r)).row r;
    put = λ r. (one (c r)).put r;
    keep = λ r. (one (c r)).keep r;
    same = λ r. (one (c r)).same r;
  }
    where
      one : (b : Bool) → Local F (pick b f g)
      one true = L
      one false = M

-- ---- points as a list: fetch, compute, alter

alter_other : {Pt : Type 0} (s : List Pt) (i p : ℕ) (h : Pt → Pt) → p ≢ i → get_elem? (alter s i h) p ≡ get_elem? s p
alter_other [] i p h n = refl
alter_other (x ∷ s) zero zero h n = absurd (n refl)
alter_other (x ∷ s) zero (suc p) h n = refl
alter_other (x ∷ s) (suc i) zero h n = refl
alter_other (x ∷ s) (suc i) (suc p) h n = alter_other s i p h (λ e. n (ap suc e))

abbrev by : {Pt : Type 0} → (Pt → Pt) → Option Pt → Option Pt
by h none = none
by h (some x) = some (h x)

alter_same : {Pt : Type 0} (s : List Pt) (i : ℕ) (h : Pt → Pt) → get_elem? (alter s i h) i ≡ by h (get_elem? s i)
alter_same [] i h = refl
alter_same (x ∷ s) zero h = refl
alter_same (x ∷ s) (suc i) h = alter_same s i h

alter_agree : {Pt : Type 0} (s t : List Pt) (i p : ℕ) (h : Pt → Pt) → get_elem? s p ≡ get_elem? t p → get_elem? (alter s i h) p ≡ get_elem? (alter t i h) p
alter_agree {Pt} s t i p h e = elim (ℕ_discrete p i) [
  | yes q ↦ subst (λ (k : ℕ). get_elem? (alter s k h) p ≡ get_elem? (alter t k h) p) q (alter_same s p h ∙ ap (by h) e ∙ sym (alter_same t p h))
  | no n ↦ alter_other s i p h n ∙ e ∙ sym (alter_other t i p h n)
]

alters_agree : {Pt Δ : Type 0} (act : Δ → Pt → Pt) (cs : List (ℕ × Δ)) (s t : List Pt) (p : ℕ) → get_elem? s p ≡ get_elem? t p
    → get_elem? (alters act cs s) p ≡ get_elem? (alters act cs t) p
alters_agree act [] s t p e = e
alters_agree act (c ∷ cs) s t p e =
    alters_agree act cs (alter s c.0 (act c.1)) (alter t c.0 (act c.1)) p (alter_agree s t c.0 p (act c.1) e)

alters_keep : {Pt Δ : Type 0} (act : Δ → Pt → Pt) (cs : List (ℕ × Δ)) (s : List Pt) (p : ℕ) → ((c : ℕ × Δ) → Memᴰ c cs → p ≢ c.0)
    → get_elem? (alters act cs s) p ≡ get_elem? s p
alters_keep act [] s p n = refl
alters_keep act (c ∷ cs) s p n =
    alters_keep act cs (alter s c.0 (act c.1)) p (λ c' m. n c' (Memᴰ.tail m)) ∙ alter_other s c.0 p (act c.1) (n c (Memᴰ.head refl))

none_some : {Pt : Type 0} (x : Pt) → none ≡ some x → ⊥
none_some x e = let z : ◌≡◌ {A = ℕ} 0 1 = cc in omega arith

some_inj : {Pt : Type 0} (x y : Pt) → some x ≡ some y → x ≡ y
some_inj x y e = cc

fetch_agree : {Pt : Type 0} (ids : List ℕ) (s t : List Pt) → ((i : ℕ) → Memᴰ i ids → get_elem? s i ≡ get_elem? t i) → fetch ids s ≡ fetch ids t
fetch_agree [] s t h = refl
fetch_agree (i ∷ is) s t h = λ j. h i (Memᴰ.head refl) j ∷ fetch_agree is s t (λ k m. h k (Memᴰ.tail m)) j

pub mem? : (p : ℕ) (l : List ℕ) → Dec (Memᴰ p l)
mem? p [] = no Memᴰ.not-nil
mem? p (i ∷ is) = go (ℕ_discrete p i) (mem? p is)
  where
    go : Dec (p ≡ i) → Dec (Memᴰ p is) → Dec (Memᴰ p (i ∷ is))
    go (yes e) d = yes (Memᴰ.head e)
    go (no n) (yes m) = yes (Memᴰ.tail m)
    go (no n) (no m) = no (λ h. elim (Memᴰ.cases_cons h) [ inl e ↦ n e | inr t ↦ m t ])

-- rows that read the points of `ids` and write those of `wids`, which are among them
module _ {R K : Type 0} (Pt : Type 0) (key : R → K) (ids wids : K → List ℕ)
    (among : (r : R) (p : ℕ) → Memᴰ p (wids (key r)) → Memᴰ p (ids (key r))) where
  abbrev pub listed : Access R (List Pt) (Option Pt) K
  listed = record {
    key = key;
    get = get_elem?;
    reads = λ k p. Memᴰ p (ids k);
    writes = λ k p. Memᴰ p (wids k);
    writes? = λ k p. mem? p (wids k);
    written_read = among;
  }

  -- g's answer: the row anew, and which points to alter and how
  abbrev pub work : {Δ : Type 0} → (Δ → Pt → Pt) → (R → List (Option Pt) → R × List (ℕ × Δ)) → R → List Pt → R × List Pt
  work act g r s = let x = g r (fetch (ids (key r)) s) in (x.0, alters act x.1 s)

  pub work_local : {Δ : Type 0} (act : Δ → Pt → Pt) (g : R → List (Option Pt) → R × List (ℕ × Δ))
      → ((r : R) (vs : List (Option Pt)) → key (g r vs).0 ≡ key r)
      → ((r : R) (vs : List (Option Pt)) (c : ℕ × Δ) → Memᴰ c (g r vs).1 → Memᴰ c.0 (wids (key r)))
      → Local listed (work act g)
  work_local act g keys only = record {
    row = λ r s t a. ap (λ (vs : List (Option Pt)). (g r vs).0) (fetch_agree (ids (key r)) s t a);
    put = λ r s t a p w.
        alters_agree act (g r (fetch (ids (key r)) s)).1 s t p (a p (among r p w))
        ∙ ap (λ (vs : List (Option Pt)). get_elem? (alters act (g r vs).1 t) p) (fetch_agree (ids (key r)) s t a);
    keep = λ r s p n. alters_keep act (g r (fetch (ids (key r)) s)).1 s p
        (λ c m e. n (subst (λ (q : ℕ). Memᴰ q (wids (key r))) (sym e) (only r (fetch (ids (key r)) s) c m)));
    same = λ r s. keys r (fetch (ids (key r)) s);
  }

-- states that agree at every number are equal
pub points_equal : {Pt : Type 0} (s t : List Pt) → ((p : ℕ) → get_elem? s p ≡ get_elem? t p) → s ≡ t
points_equal [] [] h = refl
points_equal [] (y ∷ t) h = absurd (none_some y (h 0))
points_equal (x ∷ s) [] h = absurd (none_some x (sym (h 0)))
points_equal (x ∷ s) (y ∷ t) h = λ i. some_inj x y (h 0) i ∷ points_equal s t (λ p. h (suc p)) i
