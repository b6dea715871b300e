-- What a scalar row constrains, by its number, and that the rules which go by the number go by this. Assumes nothing.
use Rattle.std.specs.Prelude.{◌≡◌, refl, ℕ, Bool, true, false, cond, eqb, Float}
use Rattle.vector.specs.declared.Vec3.{Vec3}
use Rattle.vector.specs.declared.Four.{Four}
use Rattle.gradients.specs.Dihedral.{dihedral_gradients}
use Rattle.gradients.specs.Gradients.{distance_gradients, volume_gradients, compute_gradients}
use Rattle.gradients.specs.declared.Gradients.{Gradients}
use Rattle.gradients.specs.declared.ScalarKind.{ScalarKind}
use Rattle.gradients.specs.declared.ScalarKind.TheVariants.{Distance, Dihedral, CellVolume}

-- 0 distance, 1 dihedral, 2 cell volume. A record that is accepted has no other number; here any other counts as 2
unfoldable pub kind_of : ℕ → ScalarKind
kind_of n = cond (eqb n 0) Distance (cond (eqb n 1) Dihedral CellVolume)

abbrev pub is_distance : ScalarKind → Bool
is_distance Distance = true
is_distance Dihedral = false
is_distance CellVolume = false

abbrev pub gradients_of : ScalarKind → Four Vec3 → Four Vec3 → Float → Gradients
gradients_of Distance pos grad rest = distance_gradients pos grad rest
gradients_of Dihedral pos grad rest = dihedral_gradients pos rest
gradients_of CellVolume pos grad rest = volume_gradients pos rest

-- a distance is number 0 alone
pub is_distance_of : (n : ℕ) → is_distance (kind_of n) ≡ eqb n 0
unfolding kind_of
is_distance_of n = by_tests (eqb n 0) (eqb n 1)
  where
    by_tests : (t u : Bool) → is_distance (cond t Distance (cond u Dihedral CellVolume)) ≡ t
    by_tests true u = refl
    by_tests false true = refl
    by_tests false false = refl

pub gradients_by_kind : (n : ℕ) (pos grad : Four Vec3) (rest : Float) → compute_gradients n pos grad rest ≡ gradients_of (kind_of n) pos grad rest
unfolding kind_of compute_gradients
gradients_by_kind n pos grad rest = by_tests (eqb n 0) (eqb n 1)
  where
    by_tests : (t u : Bool)
        → cond t (distance_gradients pos grad rest) (cond u (dihedral_gradients pos rest) (volume_gradients pos rest))
        ≡ gradients_of (cond t Distance (cond u Dihedral CellVolume)) pos grad rest
    by_tests true u = refl
    by_tests false true = refl
    by_tests false false = refl
