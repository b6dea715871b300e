-- The test that computes acceptance (specs/Check): two rows clash by the test where they clash, and a listing that passes is accepted.
-- Assumes nothing.
use Rattle.std.proofs.Common.{◌≡◌, refl, Bool, ◌||◌, not, ◌≢◌, ◌⊎◌, ◌↔◌, ℕ, ◌<◌, T, leb, eqb, length, get_or, subst, inl, inr, leb→le}
use Rattle.std.proofs.Common.{eqb→eq, T_not, List, [], ◌∷◌, map}
use mathlib.Core.List.Memᴰ
use mathlib.Core.List.{Memᴰ}
use Rattle.std.proofs.Math.Dec.{eqb_refl}
use Rattle.relisting.specs.Build.{listed}
use Rattle.relisting.specs.Relist.{Clash, Accepted}
use Rattle.relisting.specs.Check.{and_both, or_either, either_or, pairs, pairs_at, has, meets}
use Rattle.relisting.specs.Check as check

-- ---- two lists of ids have one in common

has_mem : (l : List ℕ) (p : ℕ) → T (has l p) → Memᴰ p l
has_mem [] p t = absurd t
has_mem (i ∷ is) p t = go (or_either (eqb p i) _ t) (has_mem is p)
  where
    go : T (eqb p i) ⊎ T (has is p) → (T (has is p) → Memᴰ p is) → Memᴰ p (i ∷ is)
    go (inl e) ih = Memᴰ.head (eqb→eq p i e)
    go (inr t) ih = Memᴰ.tail (ih t)

mem_has : (l : List ℕ) (p : ℕ) → Memᴰ p l → T (has l p)
mem_has [] p m = absurd (Memᴰ.not-nil m)
mem_has (i ∷ is) p m = go (Memᴰ.cases_cons m) (mem_has is p)
  where
    go : (p ≡ i) ⊎ Memᴰ p is → (Memᴰ p is → T (has is p)) → T (eqb p i || has is p)
    go (inl e) ih = either_or (eqb p i) _ (inl (subst (λ (j : ℕ). T (eqb p j)) e (eqb_refl p)))
    go (inr t) ih = either_or (eqb p i) _ (inr (ih t))

meets_mem : (l js : List ℕ) → T (meets l js) → (p : ℕ) × Memᴰ p l × Memᴰ p js
meets_mem [] js t = absurd t
meets_mem (i ∷ is) js t = go (or_either (has js i) _ t) (meets_mem is js)
  where
    go : T (has js i) ⊎ T (meets is js) → (T (meets is js) → (p : ℕ) × Memᴰ p is × Memᴰ p js) → (p : ℕ) × Memᴰ p (i ∷ is) × Memᴰ p js
    go (inl h) ih = (i, Memᴰ.head refl, has_mem js i h)
    go (inr t) ih = let x = ih t in (x.0, Memᴰ.tail x.1, x.2)

mem_meets : (l js : List ℕ) (p : ℕ) → Memᴰ p l → Memᴰ p js → T (meets l js)
mem_meets [] js p m m' = absurd (Memᴰ.not-nil m)
mem_meets (i ∷ is) js p m m' = go (Memᴰ.cases_cons m) (λ t. mem_meets is js p t m')
  where
    go : (p ≡ i) ⊎ Memᴰ p is → (Memᴰ p is → T (meets is js)) → T (has js i || meets is js)
    go (inl e) ih = either_or (has js i) _ (inl (subst (λ (j : ℕ). T (has js j)) e (mem_has js p m')))
    go (inr t) ih = either_or (has js i) _ (inr (ih t))

-- ---- the test of two rows, and of a listing

module _ {R K : Type 0} (Pt : Type 0) (key : R → K) (ids wids : K → List ℕ)
    (among : (r : R) (p : ℕ) → Memᴰ p (wids (key r)) → Memᴰ p (ids (key r))) (d : R) (colour : K → ℕ) (overflow : ℕ) where
  -- the definitions of specs/Check, of these rows
  abbrev clashes : K → K → Bool
  clashes k l = check.clashes Pt key ids wids among d colour overflow k l

  abbrev fine : K → K → Bool
  fine k l = check.fine Pt key ids wids among d colour overflow k l

  pub clashes_iff : (k l : K) → T (clashes k l) ↔ Clash (listed Pt key ids wids among) k l
  clashes_iff k l = ((λ t. to (or_either (meets (wids k) (ids l)) _ t)), (λ c. either_or (meets (wids k) (ids l)) _ (fro c)))
    where
      to : T (meets (wids k) (ids l)) ⊎ T (meets (ids k) (wids l)) → Clash (listed Pt key ids wids among) k l
      to (inl t) = let x = meets_mem (wids k) (ids l) t in (x.0, inl (x.1, x.2))
      to (inr t) = let x = meets_mem (ids k) (wids l) t in (x.0, inr (x.1, x.2))

      fro : Clash (listed Pt key ids wids among) k l → T (meets (wids k) (ids l)) ⊎ T (meets (ids k) (wids l))
      fro (p, inl x) = inl (mem_meets (wids k) (ids l) p x.0 x.1)
      fro (p, inr x) = inr (mem_meets (ids k) (wids l) p x.0 x.1)

  pub tested : (A : List R) → T (pairs fine (map key A)) → Accepted (listed Pt key ids wids among) d colour overflow A
  tested A t = record {
    rising = λ m n l b. leb→le _ _ (parts m n l b).0;
    apart = λ m n l b e o c. go m n e o c (or_either (not (eqb (hue m) (hue n)) || eqb (hue m) overflow) (not (clashes (at m) (at n))) (parts m n l b).1);
  }
    where
      at : ℕ → K
      at n = key (get_or A n d)

      hue : ℕ → ℕ
      hue n = colour (at n)

      parts : (m n : ℕ) → m < n → n < length A → T (leb (hue m) (hue n)) × T (not (eqb (hue m) (hue n)) || eqb (hue m) overflow || not (clashes (at m) (at n)))
      parts m n l b = and_both (leb (hue m) (hue n)) _ (pairs_at fine key d A t m n l b)

      go : (m n : ℕ) → hue m ≡ hue n → hue m ≢ overflow → Clash (listed Pt key ids wids among) (at m) (at n)
          → T (not (eqb (hue m) (hue n)) || eqb (hue m) overflow) ⊎ T (not (clashes (at m) (at n))) → ⊥
      go m n e o c (inr t) = T_not (clashes (at m) (at n)) t ((clashes_iff (at m) (at n)).1 c)
      go m n e o c (inl t) = elim (or_either (not (eqb (hue m) (hue n))) _ t) [
        | inl u ↦ T_not (eqb (hue m) (hue n)) u (subst (λ (j : ℕ). T (eqb (hue m) j)) e (eqb_refl (hue m)))
        | inr u ↦ o (eqb→eq _ _ u)
      ]
