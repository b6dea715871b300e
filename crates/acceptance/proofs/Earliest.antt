-- A list of tests in turn, by number and then by place: the first that fails has the lowest number, and of that number the earliest place. Assumes nothing.
use Rattle.std.proofs.Common.{ℕ, zero, suc, ◌+◌, ◌*◌, ◌≤◌, ◌<◌, ◌≡◌, refl, sym, ◌∙◌, subst, Bool, true, false, cond, ◌&&◌, ◌⊎◌, inl, inr}
use Rattle.std.proofs.Common.{List, [], ◌∷◌, ◌++◌, arith, ltb, leb, take, drop, ltb-true, leb-true}
use Rattle.records.specs.Answers.{Test, number_of, refused, first_of}
use Rattle.records.specs.Fields.{run}
use Rattle.records.proofs.ByKind.{and_both}
use Rattle.acceptance.proofs.Numbers.{number_is, place_is, refused_not}

-- ---- a test that fails

-- some test fails, with number n at place k
unfoldable pub Has : ℕ → ℕ → List Test → Type 0
Has n k [] = ⊥
Has n k (t ∷ ts) = ((t.fails ≡ true) × (number_of t.refusal ≡ n) × (t.place ≡ k)) ⊎ Has n k ts

-- every test that fails has a number and a place with P
unfoldable pub Each : (ℕ → ℕ → Type 0) → List Test → Type 0
Each P [] = Unit
Each P (t ∷ ts) = (t.fails ≡ true → P (number_of t.refusal) t.place) × Each P ts

module _ (n k : ℕ) where
  has_left : (ts us : List Test) → Has n k ts → Has n k (ts ++ us)
  unfolding Has
  has_left [] us h = absurd h
  has_left (t ∷ ts) us (inl h) = inl h
  has_left (t ∷ ts) us (inr h) = inr (has_left ts us h)

  has_right : (ts us : List Test) → Has n k us → Has n k (ts ++ us)
  unfolding Has
  has_right [] us h = h
  has_right (t ∷ ts) us h = inr (has_right ts us h)

  pub has_run : (t : ℕ → List Test) (a m j i : ℕ) → i < m → j ≡ a + 4 * i → Has n k (t j) → Has n k (run t a m)
  unfolding run
  has_run t a zero j i l e h = absurd (omega arith)
  has_run t a (suc m) j zero l e h = has_left (t a) _ (subst (λ (x : ℕ). Has n k (t x)) (omega arith) h)
  has_run t a (suc m) j (suc i) l e h = has_right (t a) _ (has_run t (a + 4) m j i (omega arith) (omega arith) h)

  has_take : (m : ℕ) (ts : List Test) → Has n k (take m ts) → Has n k ts
  unfolding Has
  has_take zero ts h = absurd h
  has_take (suc m) [] h = absurd h
  has_take (suc m) (t ∷ ts) (inl h) = inl h
  has_take (suc m) (t ∷ ts) (inr h) = inr (has_take m ts h)

  has_drop : (i : ℕ) (ts : List Test) → Has n k (drop i ts) → Has n k ts
  unfolding Has
  has_drop zero ts h = h
  has_drop (suc i) [] h = absurd h
  has_drop (suc i) (t ∷ ts) h = inr (has_drop i ts h)

  -- some of the m tests from number i on, which are us
  pub has_part : (i m : ℕ) (ts us : List Test) → us ≡ take m (drop i ts) → Has n k us → Has n k ts
  has_part i m ts us e h = has_drop i ts (has_take m (drop i ts) (subst (Has n k) e h))

module _ (P : ℕ → ℕ → Type 0) where
  pub each_append : (ts us : List Test) → Each P ts → Each P us → Each P (ts ++ us)
  unfolding Each
  each_append [] us p q = q
  each_append (t ∷ ts) us p q = (p.0, each_append ts us p.1 q)

  pub each_run : (t : ℕ → List Test) (a m : ℕ) → ((j i : ℕ) → i < m → j ≡ a + 4 * i → Each P (t j)) → Each P (run t a m)
  unfolding run Each
  each_run t a zero h = tt
  each_run t a (suc m) h = each_append (t a) _ (h a 0 (omega arith) (omega arith)) (each_run t (a + 4) m (λ j i l e. h j (suc i) (omega arith) (omega arith)))

  pub each_has : (ts : List Test) (n k : ℕ) → Each P ts → Has n k ts → P n k
  unfolding Each Has
  each_has [] n k p h = absurd h
  each_has (t ∷ ts) n k p (inl h) = subst (λ (m : ℕ). P m k) h.1 (subst (P (number_of t.refusal)) h.2 (p.0 h.0))
  each_has (t ∷ ts) n k p (inr h) = each_has ts n k p.1 h

-- ---- in turn

abbrev pub turn : ℕ → ℕ → ℕ
turn n k = 65536 * n + k

-- the tests' turns rise, from a on, and every place is below 65,536: a test that computes, whatever the bytes are
unfoldable pub in_turn : ℕ → List Test → Bool
in_turn a [] = true
in_turn a (t ∷ ts) = leb a (turn (number_of t.refusal) t.place) && (ltb t.place 65536 && in_turn (turn (number_of t.refusal) t.place + 1) ts)

-- so later tests have later turns
in_turn_lem : (a : ℕ) (t : Test) (ts : List Test) → in_turn a (t ∷ ts) ≡ true
    → (a ≤ turn (number_of t.refusal) t.place) × (t.place < 65536) × (in_turn (turn (number_of t.refusal) t.place + 1) ts ≡ true)
unfolding in_turn
in_turn_lem a t ts e =
    let x = and_both (leb a (turn (number_of t.refusal) t.place)) _ e in
    let y = and_both (ltb t.place 65536) _ x.1 in
    (leb-true _ _ x.0, ltb-true _ _ y.0, y.1)

pub has_after : (a : ℕ) (ts : List Test) (n k : ℕ) → in_turn a ts ≡ true → Has n k ts → (a ≤ turn n k) × (k < 65536)
unfolding Has
has_after a [] n k p h = absurd h
has_after a (t ∷ ts) n k p (inl h) = let x = in_turn_lem a t ts p in (omega (arith, x.0, h.1, h.2), omega (arith, x.1, h.2))
has_after a (t ∷ ts) n k p (inr h) = let x = in_turn_lem a t ts p in let y = has_after (turn (number_of t.refusal) t.place + 1) ts n k x.2 h in (omega (arith, x.0, y.0), y.1)

-- ---- THE FIRST THAT FAILS

-- some test fails with n at k, and none whose turn is earlier
pub record Earliest (ts : List Test) (n k : ℕ) : Type 0 where
  pub has : Has n k ts
  pub none_before : (m j : ℕ) → turn m j < turn n k → Has m j ts → ⊥

pub first_earliest : (a n k : ℕ) (ts : List Test) → in_turn a ts ≡ true → first_of ts ≡ refused (suc n) k → Earliest ts (suc n) k
unfolding first_of Has
first_earliest a n k [] p q = absurd (refused_not q refl)
first_earliest a n k (t ∷ ts) p q = go t.fails refl q (first_earliest (turn (number_of t.refusal) t.place + 1) n k ts (in_turn_lem a t ts p).2)
  where
    go : (b : Bool) → t.fails ≡ b → cond b (refused (number_of t.refusal) t.place) (first_of ts) ≡ refused (suc n) k
        → (first_of ts ≡ refused (suc n) k → Earliest ts (suc n) k) → Earliest (t ∷ ts) (suc n) k
    go true f q ih = record {
      has = inl (f, number_is q, place_is q);
      none_before = λ m j l h. elim h [
        | inl x ↦ omega (arith, x.1, x.2, number_is q, place_is q)
        | inr x ↦ omega (arith, (has_after _ ts m j (in_turn_lem a t ts p).2 x).0, number_is q, place_is q)
      ];
    }
    go false f q ih = let x = ih q in record {
      has = inr x.has;
      none_before = λ m j l h. elim h [
        | inl y ↦ (let z : ◌≡◌ {A = Bool} false true = sym f ∙ y.0 in let w : ◌≡◌ {A = ℕ} 0 1 = cc in omega arith)
        | inr y ↦ x.none_before m j l y
      ];
    }

pub earliest_first : (a n k : ℕ) (ts : List Test) → in_turn a ts ≡ true → Earliest ts (suc n) k → first_of ts ≡ refused (suc n) k
unfolding first_of Has
earliest_first a n k [] p x = absurd x.has
earliest_first a n k (t ∷ ts) p x = go t.fails refl x.has (earliest_first (turn (number_of t.refusal) t.place + 1) n k ts (in_turn_lem a t ts p).2)
  where
    go : (b : Bool) → t.fails ≡ b → Has (suc n) k (t ∷ ts) → (Earliest ts (suc n) k → first_of ts ≡ refused (suc n) k)
        → cond b (refused (number_of t.refusal) t.place) (first_of ts) ≡ refused (suc n) k
    go true f (inl y) ih = λ i. refused (y.1 i) (y.2 i)
    go true f (inr y) ih = absurd (x.none_before (number_of t.refusal) t.place (omega (arith, (has_after _ ts (suc n) k (in_turn_lem a t ts p).2 y).0)) (inl (f, refl, refl)))
    go false f (inl y) ih = absurd (let z : ◌≡◌ {A = Bool} false true = sym f ∙ y.0 in let w : ◌≡◌ {A = ℕ} 0 1 = cc in omega arith)
    go false f (inr y) ih = ih (record { has = y; none_before = λ m j l h. x.none_before m j l (inr h) })
