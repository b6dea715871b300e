-- What the definitions come to, case by case: NaN, the zeros, the infinities, and each branch. Assumes nothing.
use Rattle.std.specs.Prelude.{ℕ, ◌+◌, ◌*◌, ◌<◌, ◌≡◌, ◌⊎◌, Bool, true, false, cond, Float}
use Rattle.std.proofs.Math.Path.{refl}
use Rattle.std.proofs.Common.{◌∙◌, inl, inr, zero-mul, arith, le-ltb, ltb-true, lt-ltb, ne_eqb}
use Rattle.std.specs.Float.{nan, inf, fin}
use Rattle.std.specs.Float.Ieee.{is_nan, neg, add, sub, mul, div, rem, lt, le, eq, of_bits, up, down}
use Rattle.loops.specs.Loops.{false_not_true}
use Rattle.root.specs.Root.{root_of}
use Rattle.real.specs.Float.{◌⊖◌, ◌⊘◌, f0, f1}
use Rattle.real.specs.Real.{abs, signum, max, clamp, is_tiny, inv}
use Rattle.real.specs.SinCos.{sin_cos, doubled, sin_cos_small, rem_turn}
use Rattle.real.specs.Acos.{acos, acos_up, pi}

-- ---- abs

pub abs_nan : abs nan ≡ nan
unfolding abs
abs_nan = refl

pub abs_infinity : (s : Bool) → abs (inf s) ≡ inf false
unfolding abs
abs_infinity s = refl

pub abs_zero : abs f0 ≡ f0
unfolding abs of_bits
abs_zero = refl

pub abs_minus_zero : abs (neg f0) ≡ f0
unfolding abs neg of_bits
abs_minus_zero = refl

pub abs_neg : (x : Float) → abs (neg x) ≡ abs x
unfolding abs neg
abs_neg nan = refl
abs_neg (inf s) = refl
abs_neg (fin s m e) = refl

pub abs_either : (x : Float) → (abs x ≡ x) ⊎ (abs x ≡ neg x)
unfolding abs neg
abs_either nan = inl refl
abs_either (inf false) = inl refl
abs_either (inf true) = inr refl
abs_either (fin false m e) = inl refl
abs_either (fin true m e) = inr refl

pub abs_not_below : (x : Float) → lt (abs x) f0 ≡ false
unfolding abs lt of_bits
abs_not_below nan = refl
abs_not_below (inf s) = refl
abs_not_below (fin s m e) = le-ltb (m * up e * 1) (0 * down e) (omega (arith, zero-mul (down e)))

-- ---- signum

pub signum_nan : signum nan ≡ nan
unfolding signum
signum_nan = refl

pub signum_zero : signum f0 ≡ f1
unfolding signum of_bits
signum_zero = refl

pub signum_minus_zero : signum (neg f0) ≡ neg f1
unfolding signum neg of_bits
signum_minus_zero = refl

-- ---- max

pub max_nan_left : (b : Float) → max nan b ≡ b
unfolding max is_nan
max_nan_left b = refl

pub max_nan_right : (a : Float) → max a nan ≡ a
unfolding max is_nan
max_nan_right nan = refl
max_nan_right (inf s) = refl
max_nan_right (fin s m e) = refl

pub max_left : (a b : Float) → is_nan a ≡ false → is_nan b ≡ false → le b a ≡ true → max a b ≡ a
unfolding max
max_left a b p q h = rw (p, q, h) refl

pub max_right : (a b : Float) → is_nan a ≡ false → is_nan b ≡ false → le b a ≡ false → max a b ≡ b
unfolding max
max_right a b p q h = rw (p, q, h) refl

-- a tie of zeros keeps the first one's sign
pub max_zeros : max f0 (neg f0) ≡ f0
unfolding max is_nan le neg of_bits
max_zeros = refl

pub max_minus_zero : max (neg f0) f0 ≡ neg f0
unfolding max is_nan le neg of_bits
max_minus_zero = refl

-- ---- clamp

not_above_nan : (x : Float) → lt x nan ≡ false
unfolding lt
not_above_nan nan = refl
not_above_nan (inf s) = refl
not_above_nan (fin s m e) = refl

-- a NaN is not drawn to the lower bound, whatever that is
past_lower : (lower upper : Float) → clamp nan lower upper ≡ cond (lt upper nan) upper nan
unfolding clamp lt le eq
past_lower nan upper = refl
past_lower (inf s) upper = refl
past_lower (fin s m e) upper = refl

pub clamp_nan : (lower upper : Float) → clamp nan lower upper ≡ nan
clamp_nan lower upper = past_lower lower upper ∙ rw (not_above_nan upper) refl

module _ (x lower upper : Float) where
  pub clamp_inside : lt x lower ≡ false → lt upper x ≡ false → clamp x lower upper ≡ x
  unfolding clamp
  clamp_inside p q = rw (p, q) refl

  pub clamp_below : lt x lower ≡ true → lt upper lower ≡ false → clamp x lower upper ≡ lower
  unfolding clamp
  clamp_below p q = rw (p, q) refl

  pub clamp_above : lt x lower ≡ false → lt upper x ≡ true → clamp x lower upper ≡ upper
  unfolding clamp
  clamp_above p q = rw (p, q) refl

-- ---- inv

pub inv_nan : inv nan ≡ nan
unfolding inv is_tiny le neg div of_bits
inv_nan = refl

pub inv_infinity : (s : Bool) → inv (inf s) ≡ cond s (neg f0) f0
unfolding inv is_tiny le neg div of_bits
inv_infinity true = refl
inv_infinity false = refl

pub inv_tiny : (x : Float) → is_tiny x ≡ true → inv x ≡ f0
unfolding inv
inv_tiny x h = rw h refl

pub inv_else : (x : Float) → is_tiny x ≡ false → inv x ≡ f1 ⊘ x
unfolding inv
inv_else x h = rw h refl

-- ---- sine and cosine: an infinite angle gives NaNs

pub sin_cos_infinity : (s : Bool) → sin_cos (inf s) ≡ record { s = nan; c = nan }
unfolding sin_cos doubled sin_cos_small rem_turn add sub mul div rem neg of_bits
sin_cos_infinity true = refl
sin_cos_infinity false = refl

-- ---- acos

pub acos_nan : acos nan ≡ nan
unfolding acos acos_up root_of is_nan le sub mul neg of_bits
acos_nan = refl

pub acos_up_lem : (d : Float) → le f0 d ≡ true → acos d ≡ acos_up d
unfolding acos
acos_up_lem d h = rw h refl

pub acos_else : (d : Float) → le f0 d ≡ false → acos d ≡ pi ⊖ acos_up (neg d)
unfolding acos
acos_else d h = rw h refl

-- -0 counts as d ≥ 0
pub acos_minus_zero : acos (neg f0) ≡ acos_up (neg f0)
unfolding acos le neg of_bits
acos_minus_zero = refl

-- below 0 it is 3.1415927 less that of -d
record Sides (d : Float) : Type 0 where
  left : le f0 d ≡ false
  right : le f0 (neg d) ≡ true

sides : (d : Float) → lt d f0 ≡ true → Sides d
unfolding lt le neg of_bits
sides nan h = absurd (false_not_true h)
sides (inf false) h = absurd (false_not_true h)
sides (inf true) h = record { left = refl; right = refl }
sides (fin false m e) h = absurd (omega (arith, ltb-true (m * up e * 1) (0 * down e) h, zero-mul (down e)))
sides (fin true m e) h =
    let a : ℕ = m * up e * 1 in
    let b : ℕ = 0 * down e in
    let z : b ≡ 0 = zero-mul (down e) in
    let p : 0 < a + b = ltb-true 0 (a + b) h in
    record { left = rw (ne_eqb b a (λ q. omega arith)) refl; right = rw (lt-ltb b a (omega arith)) refl }

pub acos_below : (d : Float) → lt d f0 ≡ true → acos d ≡ pi ⊖ acos (neg d)
acos_below d h = acos_else d (sides d h).left ∙ rw (acos_up_lem (neg d) (sides d h).right) refl
