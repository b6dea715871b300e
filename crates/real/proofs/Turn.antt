-- How the code of `rem_turn` gets at a remainder by 6.2831855: from 4 on it is one of whole numbers of 2 ^ -21. Assumes nothing.
use Rattle.std.specs.Prelude.{ℕ, zero, suc, ◌+◌, ◌-◌, ◌*◌, ◌/◌, ◌%◌, ◌^◌, ◌<◌, ◌≤◌, ◌≡◌, refl, Bool, true, false, cond, T, leb, eqb, ℤ, pos}
use Rattle.std.specs.Prelude.{negsuc, Float}
use Rattle.std.proofs.Common.{sym, ap, subst, true≢false, ◌∙◌, mul_comm, mul_assoc, mul_right_comm, mul-pos, mul-lt-mul_of_pos_right}
use Rattle.std.proofs.Common.{mod-lt, mod-eq_of_lt, div-add-mod', arith, ne_eqb, pow-add, pow_pos}
use Rattle.std.proofs.Math.Nat.{add-mul, mul-add-mod_self_right, eq_of_mul-eq-mul_right}
use Rattle.std.proofs.lemmas.Nat.{mul-mod_second}
use Rattle.std.proofs.Math.Pow.{pow_mono}
use Rattle.std.specs.Float.{nan, inf, fin, binary32}
use Rattle.std.specs.Float.Ieee.{of_bits, to_bits, of_int, mul, sub, rem, round, fits, up, down}
use Rattle.std.specs.Float.Ieee.Bits.{of_bits-to_bits}
use Rattle.std.specs.Float.Ieee.Exact.{HasValue, odd_sign}
use Rattle.std.specs.Float.Ieee.Back.{round_whole}
use Rattle.std.specs.Float.Ieee.Fits.{down_pos}
use Rattle.std.specs.Float.Ieee.Scale.{round_same}
use Rattle.real.specs.SinCos.{full_turn}
use Rattle.real.specs.Sign.{rounded, zero_place}

-- ---- remainders

scaled_mod : (w n d : ℕ) → 0 < n → 0 < d → w * d % (n * d) ≡ w % n * d
scaled_mod w n d N D =
    let split : w * d ≡ w / n * (n * d) + w % n * d =
    ap (λ (k : ℕ). k * d) (sym (div-add-mod' w n)) ∙ add-mul (w / n * n) (w % n) d ∙ ap (λ (k : ℕ). k + w % n * d) (mul_assoc (w / n) n d) in
    ap (λ (k : ℕ). k % (n * d)) split ∙ mul-add-mod_self_right (w / n) (n * d) (w % n * d) ∙ mod-eq_of_lt (mul-lt-mul_of_pos_right (mod-lt w N) D)

-- of a product of which one more factor is 2
pub once_more : (n i r : ℕ) → r ≡ n * 2 ^ i % 13176795 → 2 * r % 13176795 ≡ n * 2 ^ (i + 1) % 13176795
once_more n i r e =
    ap (λ (k : ℕ). 2 * k % 13176795) e
    ∙ mul-mod_second 2 (n * 2 ^ i) 13176795
    ∙ ap (λ (k : ℕ). k % 13176795) (mul_comm 2 (n * 2 ^ i) ∙ mul_assoc n (2 ^ i) 2 ∙ ap (λ (k : ℕ). n * k) (sym (pow-add 2 i 1)))

-- of w units of 2 ^ -21
whole : (x : Float) (s : Bool) (w : ℕ) → HasValue x s w 2097152 → rem binary32 x full_turn ≡ round binary32 s (w % 13176795) 2097152
unfolding rem of_bits
whole nan s w v = absurd v
whole (inf t) s w v = absurd v
whole (fin t m e) s w v =
    let left : m * up e * 2097152 % (13176795 * down e) ≡ w % 13176795 * down e =
    ap (λ (k : ℕ). k % (13176795 * down e)) v.1 ∙ scaled_mod w 13176795 (down e) (omega arith) (down_pos e) in
    ap (λ (b : Bool). round binary32 b (m * up e * 2097152 % (13176795 * down e)) (down e * 2097152)) v.0
    ∙ round_same binary32 s (m * up e * 2097152 % (13176795 * down e)) (down e * 2097152) (w % 13176795) 2097152 (mul-pos (down_pos e) (omega arith)) (omega arith)
    (ap (λ (k : ℕ). k * 2097152) left ∙ mul_assoc (w % 13176795) (down e) 2097152)

-- a number below 4 stays
small : (s : Bool) (m : ℕ) (e : ℤ) → T (fits binary32 (fin s m e)) → m * up e < 4 * down e → rem binary32 (fin s m e) full_turn ≡ fin s m e
unfolding rem of_bits
small s zero e h l = rw (zero_place s e h) refl
small s (suc m) e h l =
    let below : suc m * up e * 2097152 < 13176795 * down e = omega (arith, l) in
    ap (λ (k : ℕ). round binary32 s k (down e * 2097152)) (mod-eq_of_lt below)
    ∙ round_same binary32 s (suc m * up e * 2097152) (down e * 2097152) (suc m * up e) (down e) (mul-pos (down_pos e) (omega arith)) (down_pos e)
    (mul_assoc (suc m * up e) 2097152 (down e) ∙ ap (λ (k : ℕ). suc m * up e * k) (mul_comm 2097152 (down e)))
    ∙ rounded s m e h

near : (x : Float) (s : Bool) (q : ℕ) → T (fits binary32 x) → HasValue x s q (2 ^ 149) → q < 2 ^ 151 → rem binary32 x full_turn ≡ x
near nan s q h v l = absurd v
near (inf t) s q h v l = absurd v
near (fin t m e) s q h v l = small t m e h (omega (arith, v.1, mul-lt-mul_of_pos_right l (down_pos e)))

-- ---- what a pattern's fields stand for

fields : (b k : ℕ) → b % 2147483648 / 8388608 ≡ suc k → eqb (suc k) 255 ≡ false → HasValue (of_bits binary32 b) (leb 2147483648 b) ((8388608 + b % 8388608) * 2 ^ k) (2 ^ 149)
unfolding of_bits
fields b k e n = rw (e, n) (odd_sign 24 (leb 2147483648 b) (8388608 + b % 8388608) k 149)

no_field : (b : ℕ) → b % 2147483648 / 8388608 ≡ 0 → HasValue (of_bits binary32 b) (leb 2147483648 b) (b % 8388608 * 2 ^ 0) (2 ^ 149)
unfolding of_bits
no_field b e = rw e (odd_sign 24 (leb 2147483648 b) (b % 8388608) 0 149)

-- an infinity's
endless : (s is : Bool) → sub binary32 (cond is (inf s) nan) (cond is (inf s) nan) ≡ rem binary32 (cond is (inf s) nan) full_turn
unfolding sub rem
endless true true = refl
endless false true = refl
endless s false = refl

far : (x : Float) (s : Bool) (q k : ℕ) → HasValue x s (q * 2 ^ (k + 128)) (2 ^ 149) → HasValue x s (q * 2 ^ k) 2097152
far nan s q k v = absurd v
far (inf t) s q k v = absurd v
far (fin t m e) s q k v = (
  v.0,
  eq_of_mul-eq-mul_right (2 ^ 128) (pow_pos 128) (m * up e * 2097152) (q * 2 ^ k * down e)
      (mul_assoc (m * up e) 2097152 (2 ^ 128)
      ∙ v.1
      ∙ ap (λ (n : ℕ). q * n * down e) (pow-add 2 k 128)
      ∙ ap (λ (n : ℕ). n * down e) (sym (mul_assoc q (2 ^ k) (2 ^ 128)))
      ∙ mul_right_comm (q * 2 ^ k) (2 ^ 128) (down e)),
)

-- ---- units of 2 ^ -21

scaled : (z : Float) (s : Bool) (r : ℕ) → HasValue z false r 1 → mul binary32 z (fin s 1 (negsuc 20)) ≡ round binary32 s r 2097152
unfolding mul
scaled nan s r v = absurd v
scaled (inf t) s r v = absurd v
scaled (fin true m e) s r v = absurd (true≢false v.0)
scaled (fin false m e) true r v =
    round_same binary32 true (m * up e * 1) (down e * 2097152) r 2097152 (mul-pos (down_pos e) (omega arith)) (omega arith) (ap (λ (k : ℕ). k * 2097152) v.1 ∙ mul_assoc r (down e) 2097152)
scaled (fin false m e) false r v =
    round_same binary32 false (m * up e * 1) (down e * 2097152) r 2097152 (mul-pos (down_pos e) (omega arith)) (omega arith) (ap (λ (k : ℕ). k * 2097152) v.1 ∙ mul_assoc r (down e) 2097152)

units : (s : Bool) (r : ℕ) → r < 13176795 → mul binary32 (of_int binary32 (pos r)) (fin s 1 (negsuc 20)) ≡ round binary32 s r 2097152
unfolding of_int
units s r l = scaled (round binary32 false r 1) s r (round_whole binary32 false r (omega (arith, l)))

-- ---- the code

module _ (x : Float) (h : T (fits binary32 x)) where
  read : of_bits binary32 (to_bits binary32 x) ≡ x
  read = of_bits-to_bits binary32 x h

  pub not_finite : to_bits binary32 x % 2147483648 / 8388608 ≡ 255 → sub binary32 x x ≡ rem binary32 x full_turn
  unfolding of_bits
  not_finite e =
      let b = to_bits binary32 x in
      let is : cond (eqb (b % 8388608) 0) (inf (leb 2147483648 b)) nan ≡ x = rw e at read in
      subst (λ (z : Float). sub binary32 z z ≡ rem binary32 z full_turn) is (endless (leb 2147483648 b) (eqb (b % 8388608) 0))

  stays' : (k : ℕ) → to_bits binary32 x % 2147483648 / 8388608 ≡ k → k < 129 → rem binary32 x full_turn ≡ x
  stays' zero e l =
      let b = to_bits binary32 x in
      near x (leb 2147483648 b) (b % 8388608 * 2 ^ 0) h (subst (λ (z : Float). HasValue z (leb 2147483648 b) (b % 8388608 * 2 ^ 0) (2 ^ 149)) read (no_field b e)) (omega arith)
  stays' (suc k) e l =
      let b = to_bits binary32 x in
      let q = (8388608 + b % 8388608) * 2 ^ k in
      let size : q < 16777216 * 2 ^ k = mul-lt-mul_of_pos_right (omega arith) (pow_pos k) in
      let most : 2 ^ k ≤ 2 ^ 127 = pow_mono {i = k} {j = 127} (omega (arith, l)) in
      near x (leb 2147483648 b) q h
      (subst (λ (z : Float). HasValue z (leb 2147483648 b) q (2 ^ 149)) read (fields b k e (ne_eqb (suc k) 255 (λ f. omega (arith, f, l)))))
      (omega (arith, size, most))

  pub stays : to_bits binary32 x % 2147483648 / 8388608 < 129 → x ≡ rem binary32 x full_turn
  stays l = sym (stays' (to_bits binary32 x % 2147483648 / 8388608) refl l)

  pub made : (s : Bool) (r : ℕ) → leb 2147483648 (to_bits binary32 x) ≡ s → 129 ≤ to_bits binary32 x % 2147483648 / 8388608 → eqb (to_bits binary32 x % 2147483648 / 8388608) 255 ≡ false
      → r ≡ (8388608 + to_bits binary32 x % 8388608) * 2 ^ (to_bits binary32 x % 2147483648 / 8388608 - 129) % 13176795
      → mul binary32 (of_int binary32 (pos r)) (fin s 1 (negsuc 20)) ≡ rem binary32 x full_turn
  made s r is l n e =
      let b = to_bits binary32 x in
      let k = b % 2147483648 / 8388608 - 129 in
      let p : b % 2147483648 / 8388608 ≡ suc (k + 128) = omega (arith, l) in
      let q = 8388608 + b % 8388608 in
      let v : HasValue x s (q * 2 ^ (k + 128)) (2 ^ 149) =
      subst (λ (z : Float). HasValue z s (q * 2 ^ (k + 128)) (2 ^ 149)) read
      (subst (λ (t : Bool). HasValue (of_bits binary32 b) t (q * 2 ^ (k + 128)) (2 ^ 149)) is (fields b (k + 128) p (ap (λ (i : ℕ). eqb i 255) (sym p) ∙ n))) in
      units s r (subst (λ (i : ℕ). i < 13176795) (sym e) (mod-lt (q * 2 ^ k) (omega arith)))
      ∙ ap (λ (i : ℕ). round binary32 s i 2097152) e
      ∙ sym (whole x s (q * 2 ^ k) (far x s q k v))
