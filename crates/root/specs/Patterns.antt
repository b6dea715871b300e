-- What number a positive finite pattern of binary32 stands for: `val b` units of 2 ^ -149. Assumes nothing.
use Rattle.std.specs.Prelude.{ℕ, zero, suc, ◌+◌, ◌-◌, ◌*◌, ◌/◌, ◌%◌, ◌^◌, ◌<◌, ◌≡◌, refl, false, cond, eqb, leb, Float}
use Rattle.std.proofs.Common.{sym, subst, mod-eq_of_lt, mul-one, arith, ne_eqb}
use Rattle.std.specs.Float.{nan, inf, binary32}
use Rattle.std.specs.Float.Ieee.{odd, of_fields, of_bits}
use Rattle.std.specs.Float.Ieee.Exact.{HasValue, odd_sign}
use Rattle.loops.specs.Loops.{cond_no}
use Rattle.std.proofs.lemmas.Bool.{lt-leb}
use Rattle.root.specs.Root.{val}

of_bits_is : (b : ℕ) → of_bits binary32 b ≡ of_fields binary32 (leb 2147483648 b) (b % 2147483648 / 8388608) (b % 8388608)
unfolding of_bits
of_bits_is b = refl

normal : (x t : ℕ) → suc x < 255 → of_fields binary32 false (suc x) t ≡ odd 24 false (8388608 + t) x 149
unfolding of_fields
normal x t h = cond_no (eqb (suc x) 255) (cond (eqb t 0) (inf false) nan) (odd 24 false (8388608 + t) x 149) (ne_eqb (suc x) 255 (λ e. omega arith))

subnormal : (t : ℕ) → of_fields binary32 false 0 t ≡ odd 24 false t 0 149
unfolding of_fields
subnormal t = refl

fields : (x t : ℕ) → x < 255 → HasValue (of_fields binary32 false x t) false (cond (eqb x 0) t ((t + 8388608) * 2 ^ (x - 1))) (2 ^ 149)
fields zero t h = let e : t * 2 ^ 0 ≡ t = mul-one t in rw (subnormal t) (subst (λ (n : ℕ). HasValue (odd 24 false t 0 149) false n (2 ^ 149)) e (odd_sign 24 false t 0 149))
fields (suc x) t h =
    let p : suc x - 1 ≡ x = omega arith in
    let q : 8388608 + t ≡ t + 8388608 = omega arith in
    let v : HasValue (odd 24 false (8388608 + t) x 149) false ((t + 8388608) * 2 ^ x) (2 ^ 149) = subst (λ (n : ℕ). HasValue (odd 24 false (8388608 + t) x 149) false (n * 2 ^ x) (2 ^ 149)) q (odd_sign 24 false (8388608 + t) x 149) in
    let c : cond (eqb (suc x) 0) t ((t + 8388608) * 2 ^ (suc x - 1)) ≡ (t + 8388608) * 2 ^ (suc x - 1) = cond_no (eqb (suc x) 0) t ((t + 8388608) * 2 ^ (suc x - 1)) (ne_eqb (suc x) 0 (λ e. omega arith)) in
    subst (λ (n : ℕ). HasValue (of_fields binary32 false (suc x) t) false n (2 ^ 149)) (sym c)
    (subst (λ (y : Float). HasValue y false ((t + 8388608) * 2 ^ (suc x - 1)) (2 ^ 149)) (sym (normal x t h)) (subst (λ (n : ℕ). HasValue (odd 24 false (8388608 + t) x 149) false ((t + 8388608) * 2 ^ n) (2 ^ 149)) (sym p) v))

pub value : (b : ℕ) → b < 2139095040 → HasValue (of_bits binary32 b) false (val b) (2 ^ 149)
unfolding val
value b h =
    let m : b % 2147483648 ≡ b = mod-eq_of_lt (omega arith) in
    rw (of_bits_is b, lt-leb 2147483648 b (omega arith), m) (fields (b / 8388608) (b % 8388608) (omega arith))
