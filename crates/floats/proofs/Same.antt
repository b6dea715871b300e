-- What was read and is put back as it is leaves the same bytes: a finite float, and a vector of three. Bytes stay bytes, and a vector beside what is put stays. Assumes nothing.
use Rattle.std.proofs.Common.{ℕ, zero, suc, ◌+◌, ◌*◌, ◌<◌, ◌≤◌, ◌/◌, ◌%◌, ◌≡◌, sym, ap, ◌∙◌, subst, Bool, true, not, inl, inr, List, []}
use Rattle.std.proofs.Common.{◌∷◌, arith, add-zero, mod-eq_of_lt, add-one, T, get_or, set, Float, ltb-true}
use Rattle.std.specs.Float.Ieee.{binary32, of_bits, to_bits, is_nan}
use Rattle.std.proofs.Math.Numerals.{add-two, add-three}
use Rattle.std.proofs.lemmas.List.{set-get_or}
use Rattle.std.proofs.lemmas.List.Edits.{sets}
use Rattle.std.specs.Float.Ieee.Bits.{to_bits-of_bits, nan_bits_is}
use Rattle.little_endian.specs.Bytes.{le32, f32_at, bytes4, f32_bytes, is_finite, patch}
use Rattle.little_endian.proofs.Parts.{Bytes, le32_small}
use Rattle.little_endian.proofs.Patch.{Beside, le32_beside}
use Rattle.std.proofs.lemmas.Float.{not_nan_f32_bits}
use Rattle.little_endian.proofs.Floats.{finite_bits}
use Rattle.vector.specs.declared.Vec3.{Vec3}
use Rattle.floats.specs.Fields.{put_f32, put_vec3, vec3_at}

-- ---- four bytes

-- the bytes of their number are the four
bytes4_got : (x0 x1 x2 x3 : ℕ) → x0 < 256 → x1 < 256 → x2 < 256 → x3 < 256 → bytes4 (x0 + 256 * x1 + 65536 * x2 + 16777216 * x3) ≡ x0 ∷ x1 ∷ x2 ∷ x3 ∷ []
bytes4_got x0 x1 x2 x3 y0 y1 y2 y3 =
    let n = x0 + 256 * x1 + 65536 * x2 + 16777216 * x3 in
    let d0 : n % 256 ≡ x0 = omega arith in
    let q1 : n / 256 ≡ x1 + 256 * x2 + 65536 * x3 = omega arith in
    let q2 : n / 65536 ≡ x2 + 256 * x3 = omega arith in
    let q3 : n / 16777216 ≡ x3 = omega arith in
    let d1 : n / 256 % 256 ≡ x1 = ap (◌% 256) q1 ∙ omega arith in
    let d2 : n / 65536 % 256 ≡ x2 = ap (◌% 256) q2 ∙ omega arith in
    let d3 : n / 16777216 % 256 ≡ x3 = ap (◌% 256) q3 ∙ mod-eq_of_lt y3 in
    λ i. d0 i ∷ d1 i ∷ d2 i ∷ d3 i ∷ []

sets-got : (b : List ℕ) (k : ℕ) → sets b k (get_or b k 0 ∷ get_or b (k + 1) 0 ∷ get_or b (k + 2) 0 ∷ get_or b (k + 3) 0 ∷ []) ≡ b
sets-got b k = simp (add-one, add-two, add-three, set-get_or)

pub put_u32_same : (b : List ℕ) (k : ℕ) → Bytes b → patch b k (bytes4 (le32 b k)) ≡ b
unfolding le32
put_u32_same b k y =
    ap (sets b k) (bytes4_got (get_or b k 0) (get_or b (k + 1) 0) (get_or b (k + 2) 0) (get_or b (k + 3) 0) (y k) (y (k + 1)) (y (k + 2)) (y (k + 3)))
    ∙ sets-got b k

-- ---- a finite float, and three of them

finite_no_nan : (n : ℕ) → is_finite (of_bits binary32 n) ≡ true → T (not (is_nan (of_bits binary32 n)))
finite_no_nan n f =
    let h : n % 2147483648 < 2139095040 = ltb-true _ _ (sym (finite_bits n) ∙ f) in
    subst (λ (t : Bool). T (not t)) (nan_bits_is binary32 n) (not_nan_f32_bits n (omega arith))

pub put_f32_same : (b : List ℕ) (k : ℕ) → Bytes b → is_finite (f32_at b k) ≡ true → put_f32 b k (f32_at b k) ≡ b
put_f32_same b k y f =
    ap (λ (n : ℕ). patch b k (bytes4 n)) (to_bits-of_bits binary32 (le32 b k) (le32_small b y k) (finite_no_nan (le32 b k) f)) ∙ put_u32_same b k y

-- the three floats from k on are finite
pub record Finite3 (b : List ℕ) (k : ℕ) : Type 0 where
  pub x : is_finite (f32_at b k) ≡ true
  pub y : is_finite (f32_at b (k + 4)) ≡ true
  pub z : is_finite (f32_at b (k + 8)) ≡ true

pub put_vec3_same : (b : List ℕ) (k : ℕ) → Bytes b → Finite3 b k → put_vec3 b k (vec3_at b k) ≡ b
unfolding put_vec3 vec3_at
put_vec3_same b k y f =
    ap (λ (l : List ℕ). put_f32 (put_f32 l (k + 4) (f32_at b (k + 4))) (k + 8) (f32_at b (k + 8))) (put_f32_same b k y f.x)
    ∙ ap (λ (l : List ℕ). put_f32 l (k + 8) (f32_at b (k + 8))) (put_f32_same b (k + 4) y f.y)
    ∙ put_f32_same b (k + 8) y f.z

-- ---- after other puts: bytes stay bytes, and a vector beside what is put stays

pub bytes_set : (l : List ℕ) (i a : ℕ) → Bytes l → a < 256 → Bytes (set l i a)
bytes_set [] i a y h j = y j
bytes_set (x ∷ l) zero a y h zero = h
bytes_set (x ∷ l) zero a y h (suc j) = y (suc j)
bytes_set (x ∷ l) (suc i) a y h zero = y zero
bytes_set (x ∷ l) (suc i) a y h (suc j) = bytes_set l i a (λ m. y (suc m)) h j

bytes_sets : (vs l : List ℕ) (i : ℕ) → Bytes l → Bytes vs → Bytes (sets l i vs)
bytes_sets [] l i y z = y
bytes_sets (a ∷ vs) l i y z = bytes_sets vs (set l i a) (suc i) (bytes_set l i a y (z zero)) (λ m. z (suc m))

bytes4_bytes : (n : ℕ) → Bytes (bytes4 n)
bytes4_bytes n zero = omega arith
bytes4_bytes n (suc zero) = omega arith
bytes4_bytes n (suc (suc zero)) = omega arith
bytes4_bytes n (suc (suc (suc zero))) = omega arith
bytes4_bytes n (suc (suc (suc (suc j)))) = omega arith

pub bytes_put_f32 : (b : List ℕ) (k : ℕ) (x : Float) → Bytes b → Bytes (put_f32 b k x)
bytes_put_f32 b k x y = bytes_sets (f32_bytes x) b k y (bytes4_bytes (to_bits binary32 x))

pub bytes_put_vec3 : (b : List ℕ) (k : ℕ) (v : Vec3) → Bytes b → Bytes (put_vec3 b k v)
unfolding put_vec3
bytes_put_vec3 b k v y =
    let y1 = bytes_put_f32 b k v.x y in
    let y2 = bytes_put_f32 (put_f32 b k v.x) (k + 4) v.y y1 in
    bytes_put_f32 (put_f32 (put_f32 b k v.x) (k + 4) v.y) (k + 8) v.z y2

module _ (b : List ℕ) (i : ℕ) (v : Vec3) where
  pub f32_beside_vec3 : (k : ℕ) → Beside k 4 i 12 → f32_at (put_vec3 b i v) k ≡ f32_at b k
  unfolding put_vec3
  f32_beside_vec3 k (inl h) =
      ap (of_bits binary32)
      (le32_beside (f32_bytes v.z) (put_f32 (put_f32 b i v.x) (i + 4) v.y) (i + 8) k (inl (omega arith))
      ∙ le32_beside (f32_bytes v.y) (put_f32 b i v.x) (i + 4) k (inl (omega arith))
      ∙ le32_beside (f32_bytes v.x) b i k (inl (omega arith)))
  f32_beside_vec3 k (inr h) =
      ap (of_bits binary32)
      (le32_beside (f32_bytes v.z) (put_f32 (put_f32 b i v.x) (i + 4) v.y) (i + 8) k (inr (omega arith))
      ∙ le32_beside (f32_bytes v.y) (put_f32 b i v.x) (i + 4) k (inr (omega arith))
      ∙ le32_beside (f32_bytes v.x) b i k (inr (omega arith)))

  near : (k d : ℕ) → Beside k 12 i 12 → d ≤ 8 → Beside (k + d) 4 i 12
  near k d (inl h) e = inl (omega arith)
  near k d (inr h) e = inr (omega arith)

  pub vec3_beside : (k : ℕ) → Beside k 12 i 12 → vec3_at (put_vec3 b i v) k ≡ vec3_at b k
  unfolding vec3_at
  vec3_beside k h =
      let p0 = rw add-zero at (f32_beside_vec3 (k + 0) (near k 0 h (omega arith))) in
      let p1 = f32_beside_vec3 (k + 4) (near k 4 h (omega arith)) in
      let p2 = f32_beside_vec3 (k + 8) (near k 8 h (omega arith)) in
      λ j. record { x = p0 j; y = p1 j; z = p2 j }

  pub finite3_beside : (k : ℕ) → Beside k 12 i 12 → Finite3 b k → Finite3 (put_vec3 b i v) k
  finite3_beside k h f =
      record {
        x = ap is_finite (rw add-zero at (f32_beside_vec3 (k + 0) (near k 0 h (omega arith)))) ∙ f.x;
        y = ap is_finite (f32_beside_vec3 (k + 4) (near k 4 h (omega arith))) ∙ f.y;
        z = ap is_finite (f32_beside_vec3 (k + 8) (near k 8 h (omega arith))) ∙ f.z;
      }

  -- a vector that was read before another was put beside it, put back
  pub put_vec3_same_after : (k : ℕ) → Bytes b → Finite3 b k → Beside k 12 i 12 → put_vec3 (put_vec3 b i v) k (vec3_at b k) ≡ put_vec3 b i v
  put_vec3_same_after k y f h =
      ap (put_vec3 (put_vec3 b i v) k) (sym (vec3_beside k h)) ∙ put_vec3_same (put_vec3 b i v) k (bytes_put_vec3 b i v y) (finite3_beside k h f)
