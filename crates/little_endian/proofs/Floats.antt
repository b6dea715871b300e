-- Which bit patterns are finite, and which are those of a NaN. Assumes nothing.
use Rattle.std.proofs.Common.{ℕ, zero, suc, ◌+◌, ◌≤◌, ◌<◌, ◌/◌, ◌%◌, ◌≡◌, refl, sym, ◌∙◌, subst, Bool, true, false, cond, not, arith, T}
use Rattle.std.proofs.Common.{leb, ltb, eqb, Float, lt-ltb, le-ltb, eq-eqb, ne_eqb}
use Rattle.std.specs.Float.Ieee.{nan, inf, fin, is_nan, odd, of_fields, of_bits, nan_bits, binary32}
use Rattle.std.proofs.Math.Decide.{dec_lt}
use Rattle.std.specs.Float.Ieee.Bits.{nan_bits_is, nan_bits_above}
use Rattle.little_endian.specs.Bytes.{is_finite}

is_nan_lem : (x : Float) → is_nan x ≡ true → x ≡ nan
unfolding is_nan
is_nan_lem nan e = refl
is_nan_lem (inf s) e = let z : ◌≡◌ {A = Bool} false true = e in cc
is_nan_lem (fin s m d) e = let z : ◌≡◌ {A = Bool} false true = e in cc

pub above_nan : (n : ℕ) → 2139095040 < n % 2147483648 → of_bits binary32 n ≡ nan
above_nan n h = is_nan_lem _ (sym (nan_bits_is binary32 n) ∙ nan_bits_above binary32 n ∙ lt-ltb _ _ h)

pub not_above : (n : ℕ) → n % 2147483648 ≤ 2139095040 → T (not (nan_bits binary32 n))
not_above n h = subst (λ (b : Bool). T (not b)) (sym (nan_bits_above binary32 n ∙ le-ltb _ _ h)) tt

-- ---- which patterns are finite

odd_finite : (d : ℕ) (s : Bool) (q k l : ℕ) → is_finite (odd d s q k l) ≡ true
unfolding odd is_finite
odd_finite d s zero k l = refl
odd_finite d s (suc q) k l = refl

fields_finite : (a b s : Bool) (v : Float) → is_finite v ≡ true → is_finite (cond a (cond b (inf s) nan) v) ≡ not a
unfolding is_finite
fields_finite true true s v h = refl
fields_finite true false s v h = refl
fields_finite false b s v h = h

of_fields_finite : (s : Bool) (x t : ℕ) → is_finite (of_fields binary32 s x t) ≡ not (eqb x 255)
unfolding of_fields
of_fields_finite s zero t = odd_finite 24 s t 0 149
of_fields_finite s (suc x) t = fields_finite (eqb (suc x) 255) (eqb t 0) s _ (odd_finite 24 s (8388608 + t) x 149)

exponent : (n : ℕ) → not (eqb (n % 2147483648 / 8388608) 255) ≡ ltb (n % 2147483648) 2139095040
exponent n = elim (dec_lt (n % 2147483648) 2139095040) [
  | yes h ↦ simp (lt-ltb _ _ h, ne_eqb (n % 2147483648 / 8388608) 255 (λ e. omega arith))
  | no h ↦ simp (le-ltb (n % 2147483648) 2139095040 (omega arith), eq-eqb (n % 2147483648 / 8388608) 255 (omega arith))
]

pub finite_bits : (n : ℕ) → is_finite (of_bits binary32 n) ≡ ltb (n % 2147483648) 2139095040
unfolding of_bits
finite_bits n = of_fields_finite (leb 2147483648 n) (n % 2147483648 / 8388608) (n % 8388608) ∙ exponent n

pub nan_bits_lem : (n : ℕ) → is_nan (of_bits binary32 n) ≡ ltb 2139095040 (n % 2147483648)
nan_bits_lem n = sym (nan_bits_is binary32 n) ∙ nan_bits_above binary32 n
