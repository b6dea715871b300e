-- How the code of `abs` and `signum` gets at the sign: 0 - x is exact, and the sign is the highest bit. Assumes nothing.
use Rattle.std.specs.Prelude.{ℕ, zero, suc, ◌+◌, ◌-◌, ◌*◌, ◌/◌, ◌%◌, ◌^◌, ◌<◌, ◌≤◌, ◌≡◌, refl, not, Bool, true, false, cond, ◌&&◌, T, leb}
use Rattle.std.specs.Prelude.{ltb, eqb, ℤ, pos, negsuc, Float}
use Rattle.std.proofs.Common.{sym, ap, ◌∙◌, mul-one, mul_assoc, mul_right_comm, mul-pos, mul-lt-mul_of_pos_right, lt_of_mul-lt-mul_right}
use Rattle.std.proofs.Common.{lt_of_not-le, not-le_of_lt, le_of_eq, lt_of_lt_of_le, lt_of_le_of_lt, zero-mul, zero-add, one-mul, arith}
use Rattle.std.proofs.Common.{le-leb, lt-ltb, eqb→eq, pow-add, pow_pos}
use Rattle.std.proofs.Math.Nat.{pow-succ'}
use Rattle.std.proofs.lemmas.Bool.{lt-leb}
use Rattle.std.proofs.Math.Dec.{leb→le, ltb→lt}
use Rattle.std.proofs.Math.Pow.{pow-lt}
use Rattle.std.specs.Float.{nan, inf, fin, binary32}
use Rattle.std.specs.Float.Ieee.{of_bits, to_bits, is_nan, neg, sub, round, lt, fits, up, down}
use Rattle.std.specs.Float.Ieee.Bits.{of_bits-to_bits, to_bits-lt}
use Rattle.std.specs.Float.Ieee.Exact.{HasValue, round_exact}
use Rattle.std.specs.Float.Ieee.Fits.{and_l, and_r, round-fits, neg-fits, up_pos, down_pos}
use Rattle.std.specs.Float.Ieee.Nearest.{div_same}
use Rattle.loops.specs.Loops.{false_not_true}
use Rattle.real.specs.Float.{◌⊖◌, f0, f1}
use Rattle.real.specs.Real.{abs, signum}

-- ---- two floats of one value are the same

-- the pattern goes by the sign and by the size in units of 2 ^ -149
pattern : (s : Bool) (m n : ℕ) (e d : ℤ) → m * up e * 2 ^ 149 / down e ≡ n * up d * 2 ^ 149 / down d → to_bits binary32 (fin s m e) ≡ to_bits binary32 (fin s n d)
unfolding to_bits
pattern s m n e d h = rw h refl

same : (x : Float) (s : Bool) (m : ℕ) (e : ℤ) → T (fits binary32 x) → T (fits binary32 (fin s m e)) → HasValue x s (m * up e) (down e) → x ≡ fin s m e
same nan s m e hx hy v = absurd v
same (inf t) s m e hx hy v = absurd v
same (fin t n d) s m e hx hy v =
    let cross : n * up d * 2 ^ 149 * down e ≡ m * up e * 2 ^ 149 * down d =
    mul_right_comm (n * up d) (2 ^ 149) (down e) ∙ ap (λ (k : ℕ). k * 2 ^ 149) v.1 ∙ mul_right_comm (m * up e) (down d) (2 ^ 149) in
    let bits : to_bits binary32 (fin t n d) ≡ to_bits binary32 (fin s m e) =
    ap (λ (b : Bool). to_bits binary32 (fin b n d)) v.0 ∙ pattern s n m d e (div_same (n * up d * 2 ^ 149) (down d) (m * up e * 2 ^ 149) (down e) (down_pos d) (down_pos e) cross) in
    sym (of_bits-to_bits binary32 (fin t n d) hx) ∙ ap (λ (b : ℕ). of_bits binary32 b) bits ∙ of_bits-to_bits binary32 (fin s m e) hy

-- ---- rounding leaves an f32 as it is

-- the size of an f32 is m * 2 ^ place units of 2 ^ -149
place : ℤ → ℕ
place (pos k) = k + 149
place (negsuc k) = 149 - suc k

placed : (m : ℕ) (e : ℤ) → down e ≤ 2 ^ 149 → m * up e * 2 ^ 149 ≡ m * 2 ^ place e * down e
unfolding place
placed m (pos k) h = mul_assoc m (2 ^ k) (2 ^ 149) ∙ ap (λ (n : ℕ). m * n) (sym (pow-add 2 k 149)) ∙ sym (mul-one (m * 2 ^ (k + 149)))
placed m (negsuc k) h =
    let below : suc k < 150 = lt_of_not-le (λ l. not-le_of_lt (pow-lt {i = 149} {j = suc k} l) h) in
    let e : 149 - suc k + suc k ≡ 149 = omega arith in
    mul_assoc m 1 (2 ^ 149) ∙ ap (λ (n : ℕ). m * n) (one-mul (2 ^ 149) ∙ ap (λ (n : ℕ). 2 ^ n) (sym e) ∙ pow-add 2 (149 - suc k) (suc k)) ∙ sym (mul_assoc m (2 ^ (149 - suc k)) (2 ^ suc k))

-- the four tests of `fits`, at a number that is not zero
abbrev is_odd : ℕ → ℤ → Bool
is_odd m e = eqb (suc m % 2) 1

abbrev is_short : ℕ → ℤ → Bool
is_short m e = ltb (suc m) (2 ^ 24)

abbrev is_fine : ℕ → ℤ → Bool
is_fine m e = leb (down e) (2 ^ 149)

abbrev is_finite : ℕ → ℤ → Bool
is_finite m e = ltb (suc m * up e) (2 ^ 128 * down e)

module _ (s : Bool) (m : ℕ) (e : ℤ) (h : T (fits binary32 (fin s (suc m) e))) where
  short : suc m < 2 ^ 24
  unfolding fits
  short = ltb→lt (suc m) (2 ^ 24) (and_r (is_odd m e) (is_short m e) (and_l (is_odd m e && is_short m e) (is_fine m e) (and_l (is_odd m e && is_short m e && is_fine m e) (is_finite m e) h)))

  fine : down e ≤ 2 ^ 149
  unfolding fits
  fine = leb→le (down e) (2 ^ 149) (and_r (is_odd m e && is_short m e) (is_fine m e) (and_l (is_odd m e && is_short m e && is_fine m e) (is_finite m e) h))

  finite : suc m * up e < 2 ^ 128 * down e
  unfolding fits
  finite = ltb→lt (suc m * up e) (2 ^ 128 * down e) (and_r (is_odd m e && is_short m e && is_fine m e) (is_finite m e) h)

  within_range : suc m * 2 ^ place e < 2 ^ 277
  within_range =
      let more : suc m * up e * 2 ^ 149 < 2 ^ 128 * down e * 2 ^ 149 = mul-lt-mul_of_pos_right finite (pow_pos 149) in
      lt_of_mul-lt-mul_right (down e)
      (lt_of_le_of_lt (le_of_eq (sym (placed (suc m) e fine)))
      (lt_of_lt_of_le more (le_of_eq (mul_right_comm (2 ^ 128) (down e) (2 ^ 149)))))

  pub rounded : round binary32 s (suc m * up e) (down e) ≡ fin s (suc m) e
  rounded =
      same (round binary32 s (suc m * up e) (down e)) s (suc m) e (round-fits binary32 s (suc m * up e) (down e)) h
      (round_exact binary32 s (suc m * up e) (down e) (suc m) (place e) (down_pos e) short within_range (placed (suc m) e fine))

-- ---- `abs`

-- a zero has one exponent
two_at_least : (k : ℕ) → 2 ^ suc k ≡ 1 → ⊥
two_at_least k h = omega (arith, pow-succ' 2 k, pow_pos k)

pub zero_place : (s : Bool) (e : ℤ) → T (fits binary32 (fin s 0 e)) → e ≡ pos 0
unfolding fits
zero_place s (pos zero) h = refl
zero_place s (pos (suc k)) h = absurd (two_at_least k (sym (mul-one (2 ^ suc k)) ∙ eqb→eq (2 ^ suc k * 1) 1 h))
zero_place s (negsuc k) h = absurd (two_at_least k (sym (one-mul (2 ^ suc k)) ∙ eqb→eq (1 * 2 ^ suc k) 1 h))

size_pos : (m : ℕ) (e : ℤ) → 0 < suc m * up e
size_pos m e = mul-pos (omega arith) (up_pos e)

-- 0 less a number that is not zero is the number of the other sign
minus : (s : Bool) (m : ℕ) (e : ℤ) → T (fits binary32 (fin s (suc m) e)) → f0 ⊖ fin s (suc m) e ≡ fin (not s) (suc m) e
unfolding sub neg of_bits
minus true m e h =
    rw (zero-mul (down e), one-mul (down e), mul-one (suc m * up e), zero-add (suc m * up e))
    (rounded false m e (neg-fits binary32 (fin true (suc m) e) h))
minus false m e h =
    let all : suc m * up e - 0 ≡ suc m * up e = omega arith in
    rw (zero-mul (down e), one-mul (down e), mul-one (suc m * up e), lt-ltb 0 (suc m * up e) (size_pos m e), all)
    (rounded true m e (neg-fits binary32 (fin false (suc m) e) h))

-- the code of `abs`
pub by_subtraction : (x : Float) → T (fits binary32 x) → cond (lt (f0 ⊖ x) x) x (f0 ⊖ x) ≡ abs x
unfolding abs sub lt of_bits
by_subtraction nan h = refl
by_subtraction (inf true) h = refl
by_subtraction (inf false) h = refl
by_subtraction (fin true zero e) h = rw (zero_place true e h) refl
by_subtraction (fin false zero e) h = rw (zero_place false e h) refl
by_subtraction (fin true (suc m) e) h = rw (minus true m e h) refl
by_subtraction (fin false (suc m) e) h = rw (minus false m e h, lt-ltb 0 (suc m * up e * down e + suc m * up e * down e) (omega (arith, mul-pos (size_pos m e) (down_pos e)))) refl

-- ---- `signum`

above : (m : ℕ) (e : ℤ) → to_bits binary32 (fin true m e) ≡ 2147483648 + to_bits binary32 (fin false m e)
unfolding to_bits
above m e = omega arith

-- the highest bit is the sign
pub sign_bit : (s : Bool) (m : ℕ) (e : ℤ) → T (fits binary32 (fin s m e)) → leb 2147483648 (to_bits binary32 (fin s m e)) ≡ s
unfolding neg
sign_bit true m e h = le-leb 2147483648 (to_bits binary32 (fin true m e)) (omega (arith, above m e))
sign_bit false m e h = lt-leb 2147483648 (to_bits binary32 (fin false m e)) (omega (arith, above m e, to_bits-lt binary32 (fin true m e) (neg-fits binary32 (fin false m e) h)))

-- the code of `signum`
pub by_sign_bit : (x : Float) → T (fits binary32 x) → is_nan x ≡ false → cond (leb 0x8000_0000 (to_bits binary32 x)) (neg f1) f1 ≡ signum x
unfolding signum is_nan to_bits
by_sign_bit nan h n = absurd (false_not_true (sym n))
by_sign_bit (inf true) h n = refl
by_sign_bit (inf false) h n = refl
by_sign_bit (fin s zero e) h n = rw (sign_bit s zero e h) refl
by_sign_bit (fin s (suc m) e) h n = rw (sign_bit s (suc m) e h) refl
