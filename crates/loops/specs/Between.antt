-- Counted loops that start anywhere, and lists that a loop changes in place from the front. Assumes nothing.
use Rattle.std.specs.Prelude.{ℕ, zero, suc, ◌+◌, ◌-◌, ◌<◌, ◌≤◌, ◌≡◌, refl, ◌⊎◌, Bool, true, false, List, ltb, eqb, length, get_or, set}
use Rattle.std.proofs.Common.{sym, ◌∙◌, ap, subst, inl, inr, arith, le_refl, add-one, ltb-true, ltb-false, eqb-true, get_or-set_other}
use Rattle.std.proofs.lemmas.Bool.{eqb-false}
use Rattle.loops.specs.Fill.{tabulate, Filled, filled_more, filled_all}
use Rattle.loops.specs.Loops.{up_to}

-- ---- two numbers are in order or not, equal or not

pub lt_or_ge : (a b : ℕ) → (a < b) ⊎ (b ≤ a)
lt_or_ge a b = go (ltb a b) refl
  where
    go : (t : Bool) → ltb a b ≡ t → (a < b) ⊎ (b ≤ a)
    go true e = inl (ltb-true a b e)
    go false e = inr (ltb-false a b e)

pub same_or_not : (a b : ℕ) → (a ≡ b) ⊎ (a ≡ b → ⊥)
same_or_not a b = go (eqb a b) refl
  where
    go : (t : Bool) → eqb a b ≡ t → (a ≡ b) ⊎ (a ≡ b → ⊥)
    go true e = inl (eqb-true a b e)
    go false e = inr (eqb-false a b e)

-- ---- turns from a on

-- the state after the turns a, a + 1, .., b - 1 of a loop whose turn k is f k
abbrev pub between : {S : Type 0} → ℕ → ℕ → (ℕ → S → S) → S → S
between a b f s = up_to (b - a) (λ u. f (a + u)) s

-- t is the state before turn i of the turns from a up to n
pub record Went {S : Type 0} (a n : ℕ) (f : ℕ → S → S) (s : S) (i : ℕ) (t : S) : Type 0 where
  pub from : a ≤ i
  pub low : i ≤ n
  pub same : t ≡ between a i f s

module _ {S : Type 0} {a n : ℕ} {f : ℕ → S → S} {s : S} where
  pub went_none : a ≤ n → Went a n f s a s
  went_none h = record { from = le_refl a; low = h; same = let k : a - a ≡ 0 = omega arith in rw k refl }

  pub went_more : {i : ℕ} {t u : S} → Went a n f s i t → i < n → u ≡ f i t → Went a n f s (i + 1) u
  went_more {i} {t} {u} w h e =
      let p : a ≤ i = w.from in
      let k : i + 1 - a ≡ suc (i - a) = omega arith in
      let q : a + (i - a) ≡ i = omega arith in
      record { from = omega arith; low = omega arith; same = rw (k, q) (e ∙ ap (f i) w.same) }

  pub went_all : {i : ℕ} {t : S} → Went a n f s i t → n ≤ i → t ≡ between a n f s
  went_all {i} {t} w h = let k : i ≡ n = omega (arith, w.low) in rw k at w.same

  -- what holds at the start, and after a turn where it held before it, holds before turn a + d
  turn : (P : ℕ → S → Type 0) → P a s → ((i : ℕ) (t : S) → a ≤ i → i < n → P i t → P (i + 1) (f i t)) → (d : ℕ) → a + d ≤ n → P (a + d) (up_to d (λ u. f (a + u)) s)
  turn P z g zero h = let k : a + 0 ≡ a = omega arith in rw k z
  turn P z g (suc d) h =
      let k : a + suc d ≡ a + d + 1 = omega arith in
      rw k (g (a + d) (up_to d (λ u. f (a + u)) s) (omega arith) (omega arith) (turn P z g d (omega arith)))

  -- and after the last one
  pub through : (P : ℕ → S → Type 0) → a ≤ n → P a s → ((i : ℕ) (t : S) → a ≤ i → i < n → P i t → P (i + 1) (f i t)) → P n (between a n f s)
  through P h z g = let k : a + (n - a) ≡ n = omega arith in subst (λ (i : ℕ). P i (between a n f s)) k (turn P z g (n - a) (omega arith))

-- what the goals of a loop that starts anywhere are proved by
pub ruleset counted_from = (went_none, went_more, went_all)

-- turns that leave the first state as it is may be left out
pub skip : {S : Type 0} (a n : ℕ) (f : ℕ → S → S) (s : S) → a ≤ n → ((i : ℕ) → i < a → f i s ≡ s) → between a n f s ≡ up_to n f s
skip a n f s h g = through {n = n} {f = f} (λ i t. t ≡ up_to i f s) h (sym (still a (le_refl a))) (λ i t p q e. rw (add-one i) (ap (f i) e))
  where
    still : (i : ℕ) → i ≤ a → up_to i f s ≡ s
    still zero p = refl
    still (suc i) p = ap (f i) (still i (omega arith)) ∙ g i (omega arith)

-- ---- a list changed in place

-- l is w with f e at each e below k: the invariant of a loop that stores f k at k, where f may look at w
pub record Sofar {A : Type 0} (d : A) (n : ℕ) (w : List A) (f : ℕ → A) (l : List A) (k : ℕ) : Type 0 where
  pub long : length l ≡ n
  pub done : (e : ℕ) → e < k → get_or l e d ≡ f e
  pub left : (e : ℕ) → k ≤ e → get_or l e d ≡ get_or w e d

module _ {A : Type 0} {d : A} {n : ℕ} {w : List A} {f : ℕ → A} where
  pub sofar_none : length w ≡ n → Sofar d n w f w 0
  sofar_none h = record { long = h; done = λ e p. absurd (omega arith); left = λ e p. refl }

  -- what is done of it, by itself
  filled : {l : List A} {k : ℕ} → Sofar d n w f l k → Filled d f n l k
  filled z = record { long = z.long; below = z.done }

  -- one store more
  pub sofar_more : {l : List A} {k : ℕ} {v : A} → Sofar d n w f l k → k < n → v ≡ f k → Sofar d n w f (set l k v) (k + 1)
  sofar_more {l} {k} {v} z h q =
      let more : Filled d f n (set l k v) (k + 1) = filled_more (filled z) h q in
      record {
        long = more.long;
        done = more.below;
        left = λ e p. get_or-set_other l k e v d (λ s. omega arith) ∙ z.left e (omega arith);
      }

  -- entries at which f is what stands there need no store
  pub sofar_skip : {l : List A} {k : ℕ} (m : ℕ) → Sofar d n w f l k → k ≤ m → ((e : ℕ) → k ≤ e → e < m → f e ≡ get_or w e d) → Sofar d n w f l m
  sofar_skip {l} {k} m z h g =
      record {
        long = z.long;
        done = λ e p. elim (lt_or_ge e k) [
          | inl s ↦ z.done e s
          | inr s ↦ z.left e s ∙ sym (g e s p)
        ];
        left = λ e p. z.left e (omega arith);
      }

  pub sofar_all : {l : List A} {k : ℕ} → Sofar d n w f l k → n ≤ k → l ≡ tabulate n f
  sofar_all z h = filled_all (filled z) h
