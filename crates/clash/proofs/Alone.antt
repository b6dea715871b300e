-- A row with no row before it clashes with none, whatever it names. Assumes nothing.
use Rattle.std.proofs.Common.{ℕ, ◌≡◌, refl, ap, ◌∙◌, Bool, true, false, not, ◌&&◌, ◌||◌, List, [], ◌∷◌, ltb, eqb}
use Rattle.clash.specs.Clash.{Key, overflow, any_of, named_by, clashes}

-- the row of colour 0 that names point 0, of a frame with one point
pub of_one_point : clashes 1 [] (record { colour = 0; ids = 0 ∷ [] }) ≡ false
unfolding clashes any_of named_by
of_one_point = refl

and_no : (t : Bool) → (t && false) ≡ false
and_no true = refl
and_no false = refl

pub alone : (N : ℕ) (q : Key) → clashes N [] q ≡ false
unfolding clashes any_of
alone N q = ap (λ (t : Bool). not (eqb q.colour overflow) && t) (none q.ids) ∙ and_no (not (eqb q.colour overflow))
  where
    none : (ids : List ℕ) → any_of (λ x. ltb x N && any_of (named_by q.colour x) []) ids ≡ false
    none [] = refl
    none (x ∷ ids) = ap (λ (t : Bool). t || any_of (λ x. ltb x N && any_of (named_by q.colour x) []) ids) (and_no (ltb x N)) ∙ none ids
