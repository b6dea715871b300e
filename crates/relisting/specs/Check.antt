-- Acceptance, as a test that computes: a test of every pair of a list holds exactly where it holds of each two numbers; and the test of two rows given by lists
-- of ids. That two rows clash by it where they clash, and that a listing that passes is accepted, is in proofs/Check.antt.
-- Assumes nothing.
use Rattle.std.proofs.Common.{Bool, true, false, ◌&&◌, ◌||◌, not, ◌⊎◌, ℕ, zero, suc, ◌<◌, T, leb, eqb, length, get_or, inl, inr, suc-le-suc}
use Rattle.std.proofs.Common.{not-suc-le-zero, le_of_suc-le-suc, arith, List, [], ◌∷◌, map}
use mathlib.Core.List.{Memᴰ}

pub and_both : (a b : Bool) → T (a && b) → T a × T b
and_both true b t = (tt, t)
and_both false b t = absurd t

pub both_and : (a b : Bool) → T a → T b → T (a && b)
both_and true b s t = t
both_and false b s t = absurd s

pub or_either : (a b : Bool) → T (a || b) → T a ⊎ T b
or_either true b t = inl tt
or_either false b t = inr t

pub either_or : (a b : Bool) → T a ⊎ T b → T (a || b)
either_or true b t = tt
either_or false b (inl t) = absurd t
either_or false b (inr t) = t

-- ---- every pair of a list, the earlier one first

module _ {K : Type 0} (c : K → K → Bool) where
  abbrev pub all_after : K → List K → Bool
  all_after k [] = true
  all_after k (l ∷ ls) = c k l && all_after k ls

  abbrev pub pairs : List K → Bool
  pairs [] = true
  pairs (k ∷ ks) = all_after k ks && pairs ks

  module _ {R : Type 0} (key : R → K) (d : R) where
    after_at : (k : K) (l : List R) → T (all_after k (map key l)) → (n : ℕ) → n < length l → T (c k (key (get_or l n d)))
    after_at k [] t n h = absurd (not-suc-le-zero h)
    after_at k (x ∷ l) t zero h = (and_both (c k (key x)) _ t).0
    after_at k (x ∷ l) t (suc n) h = after_at k l (and_both (c k (key x)) _ t).1 n (le_of_suc-le-suc h)

    at_after : (k : K) (l : List R) → ((n : ℕ) → n < length l → T (c k (key (get_or l n d)))) → T (all_after k (map key l))
    at_after k [] h = tt
    at_after k (x ∷ l) h = both_and (c k (key x)) _ (h 0 (omega arith)) (at_after k l (λ n b. h (suc n) (suc-le-suc b)))

    pub pairs_at : (l : List R) → T (pairs (map key l)) → (m n : ℕ) → m < n → n < length l → T (c (key (get_or l m d)) (key (get_or l n d)))
    pairs_at [] t m n h b = absurd (not-suc-le-zero b)
    pairs_at (x ∷ l) t m zero h b = absurd (not-suc-le-zero h)
    pairs_at (x ∷ l) t zero (suc n) h b = after_at (key x) l (and_both (all_after (key x) (map key l)) _ t).0 n (le_of_suc-le-suc b)
    pairs_at (x ∷ l) t (suc m) (suc n) h b =
        pairs_at l (and_both (all_after (key x) (map key l)) _ t).1 m n (le_of_suc-le-suc h) (le_of_suc-le-suc b)

    pub at_pairs : (l : List R) → ((m n : ℕ) → m < n → n < length l → T (c (key (get_or l m d)) (key (get_or l n d)))) → T (pairs (map key l))
    at_pairs [] h = tt
    at_pairs (x ∷ l) h = both_and (all_after (key x) (map key l)) _
        (at_after (key x) l (λ n b. h 0 (suc n) (omega arith) (suc-le-suc b))) (at_pairs l (λ m n a b. h (suc m) (suc n) (suc-le-suc a) (suc-le-suc b)))

-- ---- two lists of ids have one in common

abbrev pub has : List ℕ → ℕ → Bool
has [] p = false
has (i ∷ is) p = eqb p i || has is p

abbrev pub meets : List ℕ → List ℕ → Bool
meets [] js = false
meets (i ∷ is) js = has js i || meets is js

-- ---- the test of two rows, and of a listing

module _ {R K : Type 0} (Pt : Type 0) (key : R → K) (ids wids : K → List ℕ)
    (among : (r : R) (p : ℕ) → Memᴰ p (wids (key r)) → Memᴰ p (ids (key r))) (d : R) (colour : K → ℕ) (overflow : ℕ) where
  abbrev pub clashes : K → K → Bool
  clashes k l = meets (wids k) (ids l) || meets (ids k) (wids l)

  abbrev pub fine : K → K → Bool
  fine k l = leb (colour k) (colour l) && (not (eqb (colour k) (colour l)) || eqb (colour k) overflow || not (clashes k l))
