-- Laws of bytes replaced at an offset (`sets`, which `patch` is): where the bytes go, what is read after, and which commute. Assumes nothing.
use Rattle.std.proofs.Common.{ℕ, zero, suc, ◌+◌, ◌*◌, ◌≤◌, ◌<◌, ◌/◌, ◌%◌, ◌≡◌, refl, sym, ap, ◌∙◌, List, [], ◌∷◌, ◌++◌, arith, zero-add}
use Rattle.std.proofs.Common.{add-zero, suc-add, add-suc, mod-eq_of_lt, T, ◌⊎◌, inl, inr, Float, length, get_or, set, length-set}
use Rattle.std.proofs.Common.{get_or-set_other, get_or-set_same}
use Rattle.std.specs.Float.Ieee.{binary32, fits, of_bits, to_bits}
use Rattle.std.proofs.Math.Nat.{div-div-eq-div-mul}
use Rattle.std.proofs.Math.Seq.{length-sets}
use Rattle.std.proofs.lemmas.List.{set-append_left, set_comm}
use Rattle.std.proofs.lemmas.List.Edits.{sets}
use Rattle.std.specs.Float.Ieee.Bits.{of_bits-to_bits, to_bits-lt}
use Rattle.little_endian.specs.Bytes.{le16, le32, f32_at, bytes2, bytes4, f32_bytes, patch}

set-right : (A B : List ℕ) (k a : ℕ) → set (A ++ B) (length A + k) a ≡ A ++ set B k a
set-right [] B k a = ap (λ (n : ℕ). set B n a) (zero-add k)
set-right (x ∷ A) B k a = ap (λ (n : ℕ). set (x ∷ A ++ B) n a) (suc-add (length A) k) ∙ ap (x ∷◌) (set-right A B k a)

-- in the first of two parts, in the second, and in the middle one of three
pub sets-left : (vs A B : List ℕ) (i : ℕ) → i + length vs ≤ length A → sets (A ++ B) i vs ≡ sets A i vs ++ B
sets-left [] A B i h = refl
sets-left (a ∷ vs) A B i h =
    ap (λ (l : List ℕ). sets l (suc i) vs) (set-append_left A B i a (omega arith))
    ∙ sets-left vs (set A i a) B (suc i) (omega (arith, length-set A i a))

pub sets-right : (vs A B : List ℕ) (k : ℕ) → sets (A ++ B) (length A + k) vs ≡ A ++ sets B k vs
sets-right [] A B k = refl
sets-right (a ∷ vs) A B k =
    ap (λ (l : List ℕ). sets l (suc (length A + k)) vs) (set-right A B k a)
    ∙ ap (λ (n : ℕ). sets (A ++ set B k a) n vs) (sym (add-suc (length A) k))
    ∙ sets-right vs A (set B k a) (suc k)

pub sets-middle : (vs A r B : List ℕ) (off k : ℕ) → length A ≡ off → k + length vs ≤ length r
    → sets (A ++ (r ++ B)) (off + k) vs ≡ A ++ (sets r k vs ++ B)
sets-middle vs A r B off k e h =
    ap (λ (n : ℕ). sets (A ++ (r ++ B)) (n + k) vs) (sym e) ∙ sets-right vs A (r ++ B) k ∙ ap (A ++◌) (sets-left vs r B k h)

-- what is read after
pub sets_below : (vs l : List ℕ) (i k : ℕ) → k < i → get_or (sets l i vs) k 0 ≡ get_or l k 0
sets_below [] l i k h = refl
sets_below (a ∷ vs) l i k h = sets_below vs (set l i a) (suc i) k (omega arith) ∙ get_or-set_other l i k a 0 (λ e. omega arith)

pub sets-above : (vs l : List ℕ) (i k : ℕ) → i + length vs ≤ k → get_or (sets l i vs) k 0 ≡ get_or l k 0
sets-above [] l i k h = refl
sets-above (a ∷ vs) l i k h = sets-above vs (set l i a) (suc i) k (omega arith) ∙ get_or-set_other l i k a 0 (λ e. omega arith)

pub sets_same : (vs l : List ℕ) (i k : ℕ) → k < length vs → i + length vs ≤ length l → get_or (sets l i vs) (i + k) 0 ≡ get_or vs k 0
sets_same (a ∷ vs) l i zero h b =
    ap (λ (n : ℕ). get_or (sets (set l i a) (suc i) vs) n 0) (omega arith)
    ∙ sets_below vs (set l i a) (suc i) i (omega arith) ∙ get_or-set_same l i a 0 (omega arith)
sets_same (a ∷ vs) l i (suc k) h b =
    ap (λ (n : ℕ). get_or (sets (set l i a) (suc i) vs) n 0) (omega arith)
    ∙ sets_same vs (set l i a) (suc i) k (omega arith) (omega (arith, length-set l i a))
sets_same [] l i k h b = absurd (omega arith)

-- two that do not meet commute
set-sets : (ws l : List ℕ) (i j a : ℕ) → i < j → sets (set l i a) j ws ≡ set (sets l j ws) i a
set-sets [] l i j a h = refl
set-sets (b ∷ ws) l i j a h = ap (λ (x : List ℕ). sets x (suc j) ws) (set_comm l i j a b (λ e. omega arith)) ∙ set-sets ws (set l j b) i (suc j) a (omega arith)

pub sets-comm : (vs ws l : List ℕ) (i j : ℕ) → i + length vs ≤ j → sets (sets l i vs) j ws ≡ sets (sets l j ws) i vs
sets-comm [] ws l i j h = refl
sets-comm (a ∷ vs) ws l i j h = sets-comm vs ws (set l i a) (suc i) j (omega arith) ∙ ap (λ (x : List ℕ). sets x (suc i) vs) (set-sets ws l i j a (omega arith))

pub length-patch : (s : List ℕ) (at : ℕ) (bs : List ℕ) → length (patch s at bs) ≡ length s
length-patch s at bs = length-sets s at bs

-- ---- numbers that were written, read again

bytes2_back : (n : ℕ) → n < 65536 → n % 256 + 256 * (n / 256 % 256) ≡ n
bytes2_back n h = let q : n / 256 < 256 = omega arith in omega (arith, mod-eq_of_lt q)

bytes4_back : (n : ℕ) → n < 4294967296 → n % 256 + 256 * (n / 256 % 256) + 65536 * (n / 65536 % 256) + 16777216 * (n / 16777216 % 256) ≡ n
bytes4_back n h =
    let a = div-div-eq-div-mul n 256 256 in
    let b = div-div-eq-div-mul n 65536 256 in
    let q3 : n / 16777216 < 256 = omega arith in
    omega (arith, a, b, mod-eq_of_lt q3)

pub le16_back : (l : List ℕ) (at n : ℕ) → at + 2 ≤ length l → n < 65536 → le16 (patch l at (bytes2 n)) at ≡ n
unfolding le16
le16_back l at n h b =
    let e0 = rw add-zero at (sets_same (bytes2 n) l at 0 (omega arith) h) in
    let e1 = sets_same (bytes2 n) l at 1 (omega arith) h in
    omega (arith, e0, e1, bytes2_back n b)

pub le32_back : (l : List ℕ) (at n : ℕ) → at + 4 ≤ length l → n < 4294967296 → le32 (patch l at (bytes4 n)) at ≡ n
unfolding le32
le32_back l at n h b =
    let e0 = rw add-zero at (sets_same (bytes4 n) l at 0 (omega arith) h) in
    let e1 = sets_same (bytes4 n) l at 1 (omega arith) h in
    let e2 = sets_same (bytes4 n) l at 2 (omega arith) h in
    let e3 = sets_same (bytes4 n) l at 3 (omega arith) h in
    omega (arith, e0, e1, e2, e3, bytes4_back n b)

pub f32_back : (l : List ℕ) (at : ℕ) (x : Float) → at + 4 ≤ length l → T (fits binary32 x) → f32_at (patch l at (f32_bytes x)) at ≡ x
f32_back l at x h f = ap (of_bits binary32) (le32_back l at (to_bits binary32 x) h (to_bits-lt binary32 x f)) ∙ of_bits-to_bits binary32 x f

-- ---- and numbers beside what was written

-- the n bytes from `at` on lie before the m from i on, or after them
abbrev pub Beside : ℕ → ℕ → ℕ → ℕ → Type 0
Beside at n i m = (at + n ≤ i) ⊎ (i + m ≤ at)

pub get_d_beside : (vs l : List ℕ) (i at : ℕ) → Beside at 1 i (length vs) → get_or (patch l i vs) at 0 ≡ get_or l at 0
get_d_beside vs l i at (inl h) = sets_below vs l i at (omega arith)
get_d_beside vs l i at (inr h) = sets-above vs l i at h

pub le16_beside : (vs l : List ℕ) (i at : ℕ) → Beside at 2 i (length vs) → le16 (patch l i vs) at ≡ le16 l at
unfolding le16
le16_beside vs l i at (inl h) = simp (sets_below vs l i at (omega arith), sets_below vs l i (at + 1) (omega arith))
le16_beside vs l i at (inr h) = simp (sets-above vs l i at (omega arith), sets-above vs l i (at + 1) (omega arith))

pub le32_beside : (vs l : List ℕ) (i at : ℕ) → Beside at 4 i (length vs) → le32 (patch l i vs) at ≡ le32 l at
unfolding le32
le32_beside vs l i at (inl h) = simp (sets_below vs l i at (omega arith), sets_below vs l i (at + 1) (omega arith), sets_below vs l i (at + 2) (omega arith), sets_below vs l i (at + 3) (omega arith))
le32_beside vs l i at (inr h) = simp (sets-above vs l i at (omega arith), sets-above vs l i (at + 1) (omega arith), sets-above vs l i (at + 2) (omega arith), sets-above vs l i (at + 3) (omega arith))
