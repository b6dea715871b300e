-- Values in the words of a record, from word k on: a float is its bits, a matrix goes column by column. Definitions only. Assumes nothing.
use Rattle.std.specs.Prelude.{◌≡◌, refl, ℕ, ◌+◌, ◌<◌, ◌*◌, ◌/◌, ◌≤◌, Bool, true, false, ◌&&◌, List, [], ◌∷◌, length, get_or, drop, ◌++◌}
use Rattle.std.specs.Prelude.{◌==◌, from_bits, slice_index, to_bits, Float}
use Rattle.std.specs.Float.{binary32}
use Rattle.std.proofs.Common.{◌∙◌, ap, sym, arith, ext_get_or}
use Rattle.std.proofs.Math.Nat.{lt-div-mul-add, div-eq_of_lt-le}
use Rattle.std.proofs.lemmas.List.{get_or_append_left, get_or-drop}
use Rattle.little_endian.specs.Bytes.{le32}
use Rattle.loops.specs.Fill.{tabulate, get_d_tabulate, length-tab_from}
use Rattle.loops.specs.Loops.{up_to}
use Rattle.real.specs.Float.{at}
use Rattle.vector.specs.declared.Vec3.{Vec3}
use Rattle.vector.specs.declared.Mat3.{Mat3}
use Rattle.vector.specs.declared.Quat.{Quat}
use Rattle.vector.specs.declared.Four.{Four}

-- a record: the `size` words of the bytes from `from` on
unfoldable pub words_at : List ℕ → ℕ → ℕ → List ℕ
words_at s from size = tabulate size (λ k. le32 s (from + 4 * k))

-- the words of a record that the bytes are
abbrev pub words_of : List ℕ → List ℕ
words_of s = words_at s 0 (length s / 4)

-- one of them
pub word_at : (s : List ℕ) (k : ℕ) → 4 * (k + 1) ≤ length s → slice_index (words_of s) k ≡ le32 s (4 * k)
unfolding words_at
word_at s k h = get_d_tabulate 0 (length s / 4) (λ k. le32 s (0 + 4 * k)) k (omega (arith, lt-div-mul-add {a = length s} {b = 4} (omega arith))) ∙ ap (le32 s) (omega arith)

-- the same list, where each element is
tab_same : {A : Type 0} (d : A) (n : ℕ) (f g : ℕ → A) → ((k : ℕ) → k < n → f k ≡ g k) → tabulate n f ≡ tabulate n g
tab_same {A = A} d n f g h =
    let long : (f : ℕ → A) → length (tabulate n f) ≡ n = λ f. length-tab_from 0 n f in
    ext_get_or d (tabulate n f) (tabulate n g) (long f ∙ sym (long g))
    (λ k b. let l : k < n = rw (long f) at b in get_d_tabulate d n f k l ∙ h k l ∙ sym (get_d_tabulate d n g k l))

-- the words of a part of some bytes
pub words_of_part : (s part rest : List ℕ) (from size : ℕ) → drop from s ≡ part ++ rest → length part ≡ 4 * size → words_of part ≡ words_at s from size
unfolding words_at le32
words_of_part s part rest from size e long =
    let count : length part / 4 ≡ size = div-eq_of_lt-le 4 (omega (arith, long)) (omega (arith, long)) in
    let byte : (j : ℕ) → j < length part → get_or part j 0 ≡ get_or s (from + j) 0 = λ j h.
    sym (get_or_append_left part rest 0 j h) ∙ ap (λ l. get_or l j 0) (sym e) ∙ get_or-drop from s j 0 in
    rw count
    (tab_same 0 size _ _ (λ k h.
    let at : (i : ℕ) → i < 4 → get_or part (0 + 4 * k + i) 0 ≡ get_or s (from + 4 * k + i) 0 = λ i l.
    byte (0 + 4 * k + i) (omega (arith, long, h, l)) ∙ ap (λ n. get_or s n 0) (omega arith) in
    let first : get_or part (0 + 4 * k) 0 ≡ get_or s (from + 4 * k) 0 =
    byte (0 + 4 * k) (omega (arith, long, h)) ∙ ap (λ n. get_or s n 0) (omega arith) in
    rw (first, at 1 (omega arith), at 2 (omega arith), at 3 (omega arith)) refl))

-- ---- what the words from k on say

abbrev pub float : List ℕ → ℕ → Float
float w k = from_bits binary32 (slice_index w k)

abbrev pub vec3 : List ℕ → ℕ → Vec3
vec3 w k = record { x = float w k; y = float w (k + 1); z = float w (k + 2) }

abbrev pub quat : List ℕ → ℕ → Quat
quat w k = record { x = float w k; y = float w (k + 1); z = float w (k + 2); w = float w (k + 3) }

abbrev pub mat3 : List ℕ → ℕ → Mat3
mat3 w k = record { x = vec3 w k; y = vec3 w (k + 3); z = vec3 w (k + 6) }

abbrev pub four : List ℕ → ℕ → Four Vec3
four w k = record { a = vec3 w k; b = vec3 w (k + 3); c = vec3 w (k + 6); d = vec3 w (k + 9) }

-- so many floats
unfoldable pub floats : ℕ → List ℕ → ℕ → List Float
floats n w k = tabulate n (λ i. float w (k + i))

abbrev pub six : List ℕ → ℕ → List Float
six = floats 6

abbrev pub flat : List ℕ → ℕ → List Float
flat = floats 36

-- ---- whether a value is what they say, bit for bit: the word of a NaN is 0x7FC00000

abbrev pub float_is : List ℕ → ℕ → Float → Bool
float_is w k x = slice_index w k == to_bits binary32 x

abbrev pub three_are : List ℕ → ℕ → Float → Float → Float → Bool
three_are w k x y z = float_is w k x && float_is w (k + 1) y && float_is w (k + 2) z

abbrev pub vec3_is : List ℕ → ℕ → Vec3 → Bool
vec3_is w k v = three_are w k v.x v.y v.z

abbrev pub quat_is : List ℕ → ℕ → Quat → Bool
quat_is w k q = three_are w k q.x q.y q.z && float_is w (k + 3) q.w

abbrev pub mat3_is : List ℕ → ℕ → Mat3 → Bool
mat3_is w k m = vec3_is w k m.x && vec3_is w (k + 3) m.y && vec3_is w (k + 6) m.z

abbrev pub four_are : List ℕ → ℕ → Four Vec3 → Bool
four_are w k v = vec3_is w k v.a && vec3_is w (k + 3) v.b && vec3_is w (k + 6) v.c && vec3_is w (k + 9) v.d

unfoldable pub floats_are : ℕ → List ℕ → ℕ → List Float → Bool
floats_are n w k v = up_to n (λ i b. b && float_is w (k + i) (at v i)) true

abbrev pub six_is : List ℕ → ℕ → List Float → Bool
six_is = floats_are 6

abbrev pub flat_is : List ℕ → ℕ → List Float → Bool
flat_is = floats_are 36

-- ---- six floats one by one

pub each_of_six : (w : List ℕ) (k : ℕ) → six w k ≡ float w k ∷ float w (k + 1) ∷ float w (k + 2) ∷ float w (k + 3) ∷ float w (k + 4) ∷ float w (k + 5) ∷ []
unfolding floats
each_of_six w k = let z : k + 0 ≡ k = omega arith in rw z refl

pub six_compared : (w : List ℕ) (k : ℕ) (v : List Float)
    → six_is w k v ≡ (three_are w k (at v 0) (at v 1) (at v 2) && three_are w (k + 3) (at v 3) (at v 4) (at v 5))
unfolding floats_are
six_compared w k v =
    let z : k + 0 ≡ k = omega arith in
    let four : k + 3 + 1 ≡ k + 4 = omega arith in
    let five : k + 3 + 2 ≡ k + 5 = omega arith in
    let is : ℕ → Bool = λ i. float_is w (k + i) (at v i) in
    rw (z, four, five) (grouped (float_is w k (at v 0)) (is 1) (is 2) (is 3) (is 4) (is 5))
  where
    grouped : (a b c d e f : Bool) → (((((true && a) && b) && c) && d) && e && f) ≡ ((a && b && c) && (d && e && f))
    grouped true true true d e f = refl
    grouped true true false d e f = refl
    grouped true false c d e f = refl
    grouped false b c d e f = refl
