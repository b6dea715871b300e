-- What a step puts back leaves the row's kind, colour, count, ids and masses: every byte that its key is read from. Assumes nothing.
use Rattle.std.specs.Prelude.{ℕ, zero, suc, ◌+◌, ◌*◌, ◌<◌, ◌≤◌, ◌≡◌, ◌⊎◌, Bool, cond, List, eqb, length, get_or, Float}
use Rattle.std.proofs.Math.Path.{refl, sym}
use Rattle.std.proofs.Common.{◌∙◌, inl, inr}
use Rattle.std.proofs.Math.Bool.{true, false}
use Rattle.std.proofs.Common.{arith}
use Rattle.loops.specs.Loops.{up_to}
use Rattle.real.specs.Float.{at}
use Rattle.little_endian.specs.Bytes.{le16, le32, f32_bytes, bytes2, patch}
use Rattle.little_endian.proofs.Patch.{sets_below, sets-above}
use Rattle.vector.specs.declared.Vec3.{Vec3}
use Rattle.vector.specs.declared.Mat3.{Mat3}
use Rattle.vector.specs.declared.Quat.{Quat}
use Rattle.vector.specs.declared.Four.{Four}
use Rattle.rows.specs.Row.{Key, key_of, names_of, masses_of, Constraint, scalar, corotational, neo_hookean, places, counted_places}
use Rattle.floats.specs.Fields.{ids_at, masses_at, put_f32, put_vec3, put_four, put_mat3, put_quat, put_floats}
use Rattle.stored.specs.Put.{put_flag}
use Rattle.stored.specs.Read.{row_of, constraint_of, scalar_of, corotational_of, neo_hookean_of, cell_of}

-- the bytes of kind and colour, of count and ids, and of the masses
abbrev pub KeyByte : ℕ → Type 0
KeyByte k = (k < 8) ⊎ (((12 ≤ k) × (k < 30)) ⊎ ((78 ≤ k) × (k < 94)))

abbrev pub Kept : List ℕ → List ℕ → Type 0
Kept b c = (k : ℕ) → KeyByte k → get_or b k 0 ≡ get_or c k 0

-- n bytes from i on that are none of them
abbrev pub Clear : ℕ → ℕ → Type 0
Clear i n = ((8 ≤ i) × (i + n ≤ 12)) ⊎ (((30 ≤ i) × (i + n ≤ 78)) ⊎ (94 ≤ i))

pub patch_kept : (b : List ℕ) (i : ℕ) (vs : List ℕ) → Clear i (length vs) → Kept (patch b i vs) b
patch_kept b i vs (inl h) k (inl p) = sets_below vs b i k (omega arith)
patch_kept b i vs (inl h) k (inr (inl p)) = sets-above vs b i k (omega arith)
patch_kept b i vs (inl h) k (inr (inr p)) = sets-above vs b i k (omega arith)
patch_kept b i vs (inr (inl h)) k (inl p) = sets_below vs b i k (omega arith)
patch_kept b i vs (inr (inl h)) k (inr (inl p)) = sets_below vs b i k (omega arith)
patch_kept b i vs (inr (inl h)) k (inr (inr p)) = sets-above vs b i k (omega arith)
patch_kept b i vs (inr (inr h)) k (inl p) = sets_below vs b i k (omega arith)
patch_kept b i vs (inr (inr h)) k (inr (inl p)) = sets_below vs b i k (omega arith)
patch_kept b i vs (inr (inr h)) k (inr (inr p)) = sets_below vs b i k (omega arith)

-- a part of what is clear is clear
pub clear_part : (i n j m : ℕ) → i ≤ j → j + m ≤ i + n → Clear i n → Clear j m
clear_part i n j m l h (inl c) = inl (omega arith, omega arith)
clear_part i n j m l h (inr (inl c)) = inr (inl (omega arith, omega arith))
clear_part i n j m l h (inr (inr c)) = inr (inr (omega arith))

pub f32_kept : (b : List ℕ) (i : ℕ) (x : Float) → Clear i 4 → Kept (put_f32 b i x) b
f32_kept b i x c = patch_kept b i (f32_bytes x) c

pub vec3_kept : (b : List ℕ) (i : ℕ) (v : Vec3) → Clear i 12 → Kept (put_vec3 b i v) b
unfolding put_vec3
vec3_kept b i v c k p =
    f32_kept (put_f32 (put_f32 b i v.x) (i + 4) v.y) (i + 8) v.z (clear_part i 12 (i + 8) 4 (omega arith) (omega arith) c) k p
    ∙ f32_kept (put_f32 b i v.x) (i + 4) v.y (clear_part i 12 (i + 4) 4 (omega arith) (omega arith) c) k p
    ∙ f32_kept b i v.x (clear_part i 12 i 4 (omega arith) (omega arith) c) k p

-- n floats
pub floats_kept : (n : ℕ) (b : List ℕ) (i : ℕ) (l : List Float) → Clear i (4 * n) → Kept (put_floats n b i l) b
unfolding put_floats
floats_kept zero b i l c k p = refl
floats_kept (suc n) b i l c k p =
    f32_kept (up_to n (λ j s. put_f32 s (i + 4 * j) (at l j)) b) (i + 4 * n) (at l n) (clear_part i (4 * suc n) (i + 4 * n) 4 (omega arith) (omega arith) c) k p
    ∙ floats_kept n b i l (clear_part i (4 * suc n) i (4 * n) (omega arith) (omega arith) c) k p

pub four_kept : (b : List ℕ) (i : ℕ) (v : Four Vec3) → Clear i 48 → Kept (put_four b i v) b
unfolding put_four
four_kept b i v c k p =
    vec3_kept (put_vec3 (put_vec3 (put_vec3 b i v.a) (i + 12) v.b) (i + 24) v.c) (i + 36) v.d (clear_part i 48 (i + 36) 12 (omega arith) (omega arith) c) k p
    ∙ vec3_kept (put_vec3 (put_vec3 b i v.a) (i + 12) v.b) (i + 24) v.c (clear_part i 48 (i + 24) 12 (omega arith) (omega arith) c) k p
    ∙ vec3_kept (put_vec3 b i v.a) (i + 12) v.b (clear_part i 48 (i + 12) 12 (omega arith) (omega arith) c) k p
    ∙ vec3_kept b i v.a (clear_part i 48 i 12 (omega arith) (omega arith) c) k p

pub mat3_kept : (b : List ℕ) (i : ℕ) (m : Mat3) → Clear i 36 → Kept (put_mat3 b i m) b
unfolding put_mat3
mat3_kept b i m c k p =
    vec3_kept (put_vec3 (put_vec3 b i m.x) (i + 12) m.y) (i + 24) m.z (clear_part i 36 (i + 24) 12 (omega arith) (omega arith) c) k p
    ∙ vec3_kept (put_vec3 b i m.x) (i + 12) m.y (clear_part i 36 (i + 12) 12 (omega arith) (omega arith) c) k p
    ∙ vec3_kept b i m.x (clear_part i 36 i 12 (omega arith) (omega arith) c) k p

pub quat_kept : (b : List ℕ) (i : ℕ) (q : Quat) → Clear i 16 → Kept (put_quat b i q) b
unfolding put_quat
quat_kept b i q c k p =
    f32_kept (put_f32 (put_f32 (put_f32 b i q.x) (i + 4) q.y) (i + 8) q.z) (i + 12) q.w (clear_part i 16 (i + 12) 4 (omega arith) (omega arith) c) k p
    ∙ f32_kept (put_f32 (put_f32 b i q.x) (i + 4) q.y) (i + 8) q.z (clear_part i 16 (i + 8) 4 (omega arith) (omega arith) c) k p
    ∙ f32_kept (put_f32 b i q.x) (i + 4) q.y (clear_part i 16 (i + 4) 4 (omega arith) (omega arith) c) k p
    ∙ f32_kept b i q.x (clear_part i 16 i 4 (omega arith) (omega arith) c) k p

pub flag_kept : (b : List ℕ) (i : ℕ) (t : Bool) → Clear i 2 → Kept (put_flag b i t) b
flag_kept b i t c = patch_kept b i (bytes2 (cond t 1 0)) c

-- ---- the key is read from these bytes alone

-- what the key says, from the bytes
abbrev key_from : List ℕ → Key
key_from b =
    record {
      colour = le16 b 6;
      names = cond (eqb (le16 b 4) 3) (counted_places (le16 b 12) (ids_at b 14)) (places (ids_at b 14));
      im = masses_at b 78;
    }

module _ (b : List ℕ) where
  abbrev by_kind : Bool → Bool → Constraint
  by_kind t u = cond t (scalar (scalar_of b)) (cond u (corotational (corotational_of b)) (neo_hookean (neo_hookean_of b)))

  pub names_by : (t u : Bool) → names_of (by_kind t u) (ids_at b 14) ≡ cond t (counted_places (le16 b 12) (ids_at b 14)) (places (ids_at b 14))
  unfolding names_of scalar_of
  names_by true u = refl
  names_by false true = refl
  names_by false false = refl

  masses_by : (t u : Bool) → masses_of (by_kind t u) ≡ masses_at b 78
  unfolding masses_of scalar_of corotational_of neo_hookean_of cell_of
  masses_by true u = refl
  masses_by false true = refl
  masses_by false false = refl

  key_from_lem : key_of (row_of b) ≡ key_from b
  unfolding key_of row_of constraint_of
  key_from_lem = λ i. record { colour = le16 b 6; names = names_by (eqb (le16 b 4) 3) (eqb (le16 b 4) 4) i; im = masses_by (eqb (le16 b 4) 3) (eqb (le16 b 4) 4) i }

module _ (b c : List ℕ) (h : Kept b c) where
  pub le16_kept : (k : ℕ) → KeyByte k → KeyByte (k + 1) → le16 b k ≡ le16 c k
  unfolding le16
  le16_kept k p q = rw (h k p, h (k + 1) q) refl

  le32_kept : (k : ℕ) → KeyByte k → KeyByte (k + 1) → KeyByte (k + 2) → KeyByte (k + 3) → le32 b k ≡ le32 c k
  unfolding le32
  le32_kept k p q r s = rw (h k p, h (k + 1) q, h (k + 2) r, h (k + 3) s) refl

  pub id_kept : (k : ℕ) → 12 ≤ k → k + 3 < 30 → le32 b k ≡ le32 c k
  id_kept k l u = le32_kept k (inr (inl (omega arith, omega arith))) (inr (inl (omega arith, omega arith))) (inr (inl (omega arith, omega arith))) (inr (inl (omega arith, omega arith)))

  mass_kept : (k : ℕ) → 78 ≤ k → k + 3 < 94 → le32 b k ≡ le32 c k
  mass_kept k l u = le32_kept k (inr (inr (omega arith, omega arith))) (inr (inr (omega arith, omega arith))) (inr (inr (omega arith, omega arith))) (inr (inr (omega arith, omega arith)))

  pub key_kept : key_of (row_of b) ≡ key_of (row_of c)
  unfolding ids_at masses_at
  key_kept =
      key_from_lem b
      ∙ rw (
        le16_kept 6 (inl (omega arith)) (inl (omega arith)),
        le16_kept 4 (inl (omega arith)) (inl (omega arith)),
        le16_kept 12 (inr (inl (omega arith, omega arith))) (inr (inl (omega arith, omega arith))),
        id_kept 14 (omega arith) (omega arith),
        id_kept 18 (omega arith) (omega arith),
        id_kept 22 (omega arith) (omega arith),
        id_kept 26 (omega arith) (omega arith),
        mass_kept 78 (omega arith) (omega arith),
        mass_kept 82 (omega arith) (omega arith),
        mass_kept 86 (omega arith) (omega arith),
        mass_kept 90 (omega arith) (omega arith),
      ) refl
      ∙ sym (key_from_lem c)
