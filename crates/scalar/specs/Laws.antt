-- What the rules come to in particular cases. Assumes nothing.
use Rattle.std.specs.Prelude.{◌≡◌, false, eqb, Float}
use Rattle.std.proofs.Math.Path.{refl, sym, ◌∙◌}
use Rattle.std.specs.Float.{nan}
use Rattle.real.specs.Float.{f0}
use Rattle.real.proofs.Laws.{clamp_nan}
use Rattle.real.specs.Real.{max}
use Rattle.vector.specs.declared.Vec3.{Vec3}
use Rattle.vector.specs.declared.Four.{Four}
use Rattle.places.specs.Places.{Holds, Masses}
use Rattle.gradients.specs.Kind.{kind_of, is_distance, is_distance_of}
use Rattle.scalar.specs.Row.{weight_of, respond, update, is_strained, sought_of, total_of, with_peak, begin}
use Rattle.scalar.specs.declared.Spring.{Spring}
use Rattle.scalar.specs.declared.Response.{Response}
use Rattle.scalar.specs.declared.SoftScalarConstraint.{SoftScalarConstraint}

-- ---- update

-- a row that names no particle weighs nothing
pub weightless : (grad : Four Vec3) (im : Masses) → weight_of 0 grad im ≡ f0
unfolding weight_of
weightless grad im = refl

-- the main sweep's update takes the peak from the impulse as it stood, and leaves the impulse
module _ (r : SoftScalarConstraint) (held : Holds) where
  pub peak_first : (begin r held).response.peak_impulse ≡ max r.response.peak_impulse r.response.impulse
  unfolding begin update respond with_peak
  peak_first = refl

  -- an update leaves the impulse, so that the peak would be the same after it
  pub peak_after : with_peak (update r held) ≡ update (with_peak r) held
  unfolding update respond with_peak
  peak_after = refl

  pub impulse_kept : (begin r held).response.impulse ≡ r.response.impulse
  unfolding begin update respond with_peak
  impulse_kept = refl

-- only a distance row is strained
pub never_strained : (r : SoftScalarConstraint) (least : Float) → eqb r.kind 0 ≡ false → is_strained r least ≡ false
unfolding is_strained
never_strained r least h = rw h refl

-- the same by what the number stands for
pub never_strained_by_kind : (r : SoftScalarConstraint) (least : Float) → is_distance (kind_of r.kind) ≡ false → is_strained r least ≡ false
never_strained_by_kind r least h = never_strained r least (sym (is_distance_of r.kind) ∙ h)

-- ---- solve

-- an impulse that is a NaN is not drawn into its bounds
pub nan_stays : (p : Spring) (s : Response) (dc : Float) → sought_of s dc ≡ nan → total_of p s dc ≡ nan
unfolding total_of
nan_stays p s dc h = rw h (clamp_nan p.lower p.upper)
