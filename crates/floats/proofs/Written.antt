-- What put_f32 writes is as it writes: one float put leaves a record's floats so, and two bytes before them do. Assumes nothing.
use Rattle.std.proofs.Common.{ℕ, ◌+◌, ◌%◌, ◌≤◌, ◌<◌, ◌≡◌, refl, sym, ap, ◌∙◌, subst, Bool, true, false, not, ◌⊎◌, inl, inr, List, arith, T}
use Rattle.std.proofs.Common.{eqb, ltb, lit≤, length, Float, eqb-true, ltb-true, ltb-false, lt-ltb}
use Rattle.std.specs.Float.Ieee.{nan, inf, fin, is_nan, binary32, of_bits, to_bits, fits, nan_bits}
use Rattle.std.proofs.lemmas.Bool.{eqb-false}
use Rattle.std.specs.Float.Ieee.Bits.{of_bits-to_bits, to_bits-lt}
use Rattle.std.proofs.lemmas.Float.{not_nan_f32_bits}
use Rattle.std.proofs.lemmas.Bool.{false≢true}
use Rattle.little_endian.specs.Bytes.{le32, bytes2, f32_bytes, patch}
use Rattle.little_endian.proofs.Patch.{length-patch, le32_back, le32_beside}
use Rattle.little_endian.proofs.Floats.{nan_bits_lem}
use Rattle.floats.specs.Fields.{put_f32}
use Rattle.floats.specs.Written.{Written, AllWritten, Stays}

is_nan_lem : (x : Float) → is_nan x ≡ true → x ≡ nan
unfolding is_nan
is_nan_lem nan e = refl
is_nan_lem (inf s) e = absurd (false≢true e)
is_nan_lem (fin s m k) e = absurd (false≢true e)

above_nan : (n : ℕ) → 2139095040 < n % 2147483648 → of_bits binary32 n ≡ nan
above_nan n h = is_nan_lem (of_bits binary32 n) (nan_bits_lem n ∙ lt-ltb _ _ h)

-- the one pattern of a NaN, and all others that are written
pub the_nan : (n : ℕ) → n ≡ 2143289344 → of_bits binary32 n ≡ nan
the_nan n e = above_nan n (subst (λ (m : ℕ). 2139095040 < m % 2147483648) (sym e) (lit≤ tt))

pub no_nan : (n : ℕ) → Written n → (n ≡ 2143289344 → ⊥) → T (not (nan_bits binary32 n))
no_nan n w d = not_nan_f32_bits n (go (ltb 2139095040 (n % 2147483648)) refl)
  where
    go : (t : Bool) → ltb 2139095040 (n % 2147483648) ≡ t → n % 2147483648 ≤ 2139095040
    go true e = absurd (d (w (ltb-true _ _ e)))
    go false e = ltb-false _ _ e

-- a pattern that is written is no NaN's but the one
pub bits_written : (x : Float) → T (fits binary32 x) → Written (to_bits binary32 x)
unfolding to_bits
bits_written x h a = ap (to_bits binary32) (sym (of_bits-to_bits binary32 x h) ∙ above_nan (to_bits binary32 x) a)

-- n bytes put beside a float leave it
pub beside_written : (b : List ℕ) (i : ℕ) (vs : List ℕ) → AllWritten b → ((k : ℕ) → 30 ≤ k → k % 4 ≡ 2 → (k + 4 ≤ i) ⊎ (i + length vs ≤ k)) → AllWritten (patch b i vs)
beside_written b i vs w apart = record { at = λ k f t l. subst Written (sym (le32_beside vs b i k (apart k f t))) (w.at k f t (omega (arith, l, length-patch b i vs))) }

pub put_stays : (b : List ℕ) (i : ℕ) (x : Float) → T (fits binary32 x) → i + 4 ≤ length b → Stays i b (put_f32 b i x)
put_stays b i x h r f t w = record { at = λ k g u l. go k g u (omega (arith, l, length-patch b i (f32_bytes x))) (eqb k i) refl }
  where
    go : (k : ℕ) → 30 ≤ k → k % 4 ≡ 2 → k + 4 ≤ length b → (e : Bool) → eqb k i ≡ e → Written (le32 (put_f32 b i x) k)
    go k g u l true e =
        subst (λ (j : ℕ). Written (le32 (put_f32 b i x) j)) (sym (eqb-true k i e))
        (subst Written (sym (le32_back b i (to_bits binary32 x) r (to_bits-lt binary32 x h))) (bits_written x h))
    go k g u l false e = subst Written (sym (le32_beside (f32_bytes x) b i k (sides k (eqb-false k i e) u))) (w.at k g u l)
      where
        sides : (k : ℕ) → (k ≡ i → ⊥) → k % 4 ≡ 2 → (k + 4 ≤ i) ⊎ (i + 4 ≤ k)
        sides k d u = part (ltb k i) refl
          where
            part : (e : Bool) → ltb k i ≡ e → (k + 4 ≤ i) ⊎ (i + 4 ≤ k)
            part true e = inl (omega (arith, ltb-true k i e, u, t))
            part false e = inr (omega (arith, ltb-false k i e, d, u, t))

-- a flag lies before all floats
pub flag_stays : (b : List ℕ) (i n : ℕ) → i + 2 ≤ 30 → AllWritten b → AllWritten (patch b i (bytes2 n))
flag_stays b i n h w = beside_written b i (bytes2 n) w (λ k g t. inr (omega arith))
