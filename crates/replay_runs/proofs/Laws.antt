-- What is told of one entry is counted; and a test that says whether two lists are the same is `equal`. Assumes nothing.
use Rattle.std.proofs.Common.{◌≡◌, ℕ, ◌+◌, refl, sym, subst, Bool, true, false, List, [], ◌∷◌, arith, eq-eqb, eqb-true, T, eqb}
use Rattle.records.proofs.ByKind.{and_both}
use Rattle.replay_runs.specs.Entries.{equal, as_stored, Counted, one_right, one_wrong}

-- what is told of the next entry: 0 it ends as stored, 1 otherwise, 2 there is none
pub data Told : ℕ → Type 0 where
  right : (s : List ℕ) (number place : ℕ) (after : List ℕ) → as_stored s number place after ≡ true → Told 0
  wrong : (s : List ℕ) (number place : ℕ) (after : List ℕ) → as_stored s number place after ≡ false → Told 1
  no_more : Told 2

module _ {tried bad : ℕ} (before : Counted tried bad) where
  pub counts_right : (got : ℕ) → Told got → (got ≡ 2 → ⊥) → (got ≡ 1 → ⊥) → Counted (tried + 1) bad
  counts_right got (right s n p t e) _ _ = one_right s n p t e before
  counts_right got (wrong s n p t e) _ q = absurd (q refl)
  counts_right got no_more p _ = absurd (p refl)

  pub counts_wrong : (got : ℕ) → Told got → got ≡ 1 → Counted (tried + 1) (bad + 1)
  counts_wrong got (right s n p t e) q = absurd (omega (arith, q))
  counts_wrong got (wrong s n p t e) q = one_wrong s n p t e before
  counts_wrong got no_more q = absurd (omega (arith, q))

equal_itself : (xs : List ℕ) → equal xs xs ≡ true
equal_itself [] = refl
equal_itself (x ∷ xs) = rw (eq-eqb x x refl, equal_itself xs) refl

equal_same : (xs ys : List ℕ) → equal xs ys ≡ true → xs ≡ ys
equal_same [] [] e = refl
equal_same [] (y ∷ ys) e = absurd (subst T (sym e) tt)
equal_same (x ∷ xs) [] e = absurd (subst T (sym e) tt)
equal_same (x ∷ xs) (y ∷ ys) e =
    let both = and_both (eqb x y) (equal xs ys) e in
    rw (eqb-true x y both.0, equal_same xs ys both.1) refl

pub decided : (b : Bool) (xs ys : List ℕ) → (b ≡ true → xs ≡ ys) × (xs ≡ ys → b ≡ true) → b ≡ equal xs ys
decided true xs ys h = rw (h.0 refl) (sym (equal_itself ys))
decided false xs ys h = pick (equal xs ys) refl
  where
    pick : (t : Bool) → equal xs ys ≡ t → false ≡ equal xs ys
    pick true e = rw e (h.1 (equal_same xs ys e))
    pick false e = sym e
