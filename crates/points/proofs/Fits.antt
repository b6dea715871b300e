-- A vector read from a frame is three f32, and so is each velocity set apart from it. Assumes nothing.
use Rattle.std.proofs.Common.{ℕ, ◌+◌, ◌≤◌, ◌<◌, sym, subst, inl, inr, List, arith, length}
use Rattle.std.specs.Float.{binary32}
use Rattle.std.specs.Float.Ieee.Bits.{of_bits-fits}
use Rattle.std.specs.Float.Ieee.Fits.{nan-fits}
use Rattle.std.proofs.lemmas.List.{get_or_past}
use Rattle.little_endian.specs.Bytes.{le32}
use Rattle.loops.specs.Between.{lt_or_ge}
use Rattle.vector.specs.declared.Vec3.{Vec3}
use Rattle.floats.specs.Fields.{vec3_at}
use Rattle.points.specs.Apart.{velocity_at, no_vector, vec_of, Fit3, Apart}

pub read_fits : (s : List ℕ) (k : ℕ) → Fit3 (vec3_at s k)
unfolding vec3_at
read_fits s k = record {
  x = of_bits-fits binary32 (le32 s k);
  y = of_bits-fits binary32 (le32 s (k + 4));
  z = of_bits-fits binary32 (le32 s (k + 8));
}

pub apart_fits : (n : ℕ) (s : List ℕ) (v : List Vec3) → Apart n s v → (i : ℕ) → i < n → Fit3 (vec_of v i)
apart_fits n s v a i h = subst Fit3 (sym (a i h)) (read_fits s (velocity_at i))

-- what a list that is too short has is three NaN
none_fits : Fit3 no_vector
none_fits = record { x = nan-fits binary32; y = nan-fits binary32; z = nan-fits binary32 }

-- each vector of v, where it has no more than n
pub all_fit : (n : ℕ) (s : List ℕ) (v : List Vec3) → length v ≤ n → Apart n s v → (i : ℕ) → Fit3 (vec_of v i)
all_fit n s v k a i = elim (lt_or_ge i (length v)) [
  | inl l ↦ apart_fits n s v a i (omega (arith, k, l))
  | inr l ↦ subst Fit3 (sym (get_or_past v i no_vector l)) none_fits
]
