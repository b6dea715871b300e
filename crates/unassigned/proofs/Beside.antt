-- What is put leaves every byte beside it. Assumes nothing.
use Rattle.std.proofs.Common.{ℕ, zero, suc, ◌+◌, ◌*◌, ◌≤◌, ◌≡◌, refl, ◌∙◌, inl, inr, Bool, cond, List, [], ◌∷◌, ◌++◌, arith, length, get_or}
use Rattle.std.proofs.Common.{Float}
use Rattle.loops.specs.Loops.{up_to}
use Rattle.real.specs.Float.{at}
use Rattle.little_endian.specs.Bytes.{f32_bytes, bytes2, patch}
use Rattle.little_endian.proofs.Patch.{sets_below, sets-above}
use Rattle.vector.specs.declared.Vec3.{Vec3}
use Rattle.vector.specs.declared.Mat3.{Mat3}
use Rattle.vector.specs.declared.Quat.{Quat}
use Rattle.vector.specs.declared.Four.{Four}
use Rattle.floats.specs.Fields.{put_f32, put_vec3, put_four, put_mat3, put_quat, put_floats}
use Rattle.stored.specs.Put.{put_flag}
use Rattle.unassigned.specs.Assigned.{Field, Out, Outside}

module _ (k : ℕ) where
  -- outside two lists of fields is outside each
  pub outside_split : (fs gs : List Field) → Outside k (fs ++ gs) → Outside k fs × Outside k gs
  outside_split [] gs o = (tt, o)
  outside_split (f ∷ fs) gs o = let x = outside_split fs gs o.1 in ((o.0, x.0), x.1)

  -- out of a range is out of a part of it
  pub out_part : (i n j m : ℕ) → i ≤ j → j + m ≤ i + n → Out k i n → Out k j m
  out_part i n j m l h (inl o) = inl (omega arith)
  out_part i n j m l h (inr o) = inr (omega arith)

  pub patch_beside : (b : List ℕ) (i : ℕ) (vs : List ℕ) → Out k i (length vs) → get_or (patch b i vs) k 0 ≡ get_or b k 0
  patch_beside b i vs (inl o) = sets_below vs b i k o
  patch_beside b i vs (inr o) = sets-above vs b i k o

  pub flag_beside : (b : List ℕ) (i : ℕ) (t : Bool) → Out k i 2 → get_or (put_flag b i t) k 0 ≡ get_or b k 0
  flag_beside b i t o = patch_beside b i (bytes2 (cond t 1 0)) o

  pub f32_beside : (b : List ℕ) (i : ℕ) (x : Float) → Out k i 4 → get_or (put_f32 b i x) k 0 ≡ get_or b k 0
  f32_beside b i x o = patch_beside b i (f32_bytes x) o

  pub vec3_beside : (b : List ℕ) (i : ℕ) (v : Vec3) → Out k i 12 → get_or (put_vec3 b i v) k 0 ≡ get_or b k 0
  unfolding put_vec3
  vec3_beside b i v o =
      f32_beside (put_f32 (put_f32 b i v.x) (i + 4) v.y) (i + 8) v.z (out_part i 12 (i + 8) 4 (omega arith) (omega arith) o)
      ∙ f32_beside (put_f32 b i v.x) (i + 4) v.y (out_part i 12 (i + 4) 4 (omega arith) (omega arith) o)
      ∙ f32_beside b i v.x (out_part i 12 i 4 (omega arith) (omega arith) o)

  pub four_beside : (b : List ℕ) (i : ℕ) (v : Four Vec3) → Out k i 48 → get_or (put_four b i v) k 0 ≡ get_or b k 0
  unfolding put_four
  four_beside b i v o =
      vec3_beside (put_vec3 (put_vec3 (put_vec3 b i v.a) (i + 12) v.b) (i + 24) v.c) (i + 36) v.d (out_part i 48 (i + 36) 12 (omega arith) (omega arith) o)
      ∙ vec3_beside (put_vec3 (put_vec3 b i v.a) (i + 12) v.b) (i + 24) v.c (out_part i 48 (i + 24) 12 (omega arith) (omega arith) o)
      ∙ vec3_beside (put_vec3 b i v.a) (i + 12) v.b (out_part i 48 (i + 12) 12 (omega arith) (omega arith) o)
      ∙ vec3_beside b i v.a (out_part i 48 i 12 (omega arith) (omega arith) o)

  pub mat3_beside : (b : List ℕ) (i : ℕ) (m : Mat3) → Out k i 36 → get_or (put_mat3 b i m) k 0 ≡ get_or b k 0
  unfolding put_mat3
  mat3_beside b i m o =
      vec3_beside (put_vec3 (put_vec3 b i m.x) (i + 12) m.y) (i + 24) m.z (out_part i 36 (i + 24) 12 (omega arith) (omega arith) o)
      ∙ vec3_beside (put_vec3 b i m.x) (i + 12) m.y (out_part i 36 (i + 12) 12 (omega arith) (omega arith) o)
      ∙ vec3_beside b i m.x (out_part i 36 i 12 (omega arith) (omega arith) o)

  pub quat_beside : (b : List ℕ) (i : ℕ) (q : Quat) → Out k i 16 → get_or (put_quat b i q) k 0 ≡ get_or b k 0
  unfolding put_quat
  quat_beside b i q o =
      f32_beside (put_f32 (put_f32 (put_f32 b i q.x) (i + 4) q.y) (i + 8) q.z) (i + 12) q.w (out_part i 16 (i + 12) 4 (omega arith) (omega arith) o)
      ∙ f32_beside (put_f32 (put_f32 b i q.x) (i + 4) q.y) (i + 8) q.z (out_part i 16 (i + 8) 4 (omega arith) (omega arith) o)
      ∙ f32_beside (put_f32 b i q.x) (i + 4) q.y (out_part i 16 (i + 4) 4 (omega arith) (omega arith) o)
      ∙ f32_beside b i q.x (out_part i 16 i 4 (omega arith) (omega arith) o)

  pub floats_beside : (n : ℕ) (b : List ℕ) (i : ℕ) (l : List Float) → Out k i (4 * n) → get_or (put_floats n b i l) k 0 ≡ get_or b k 0
  unfolding put_floats
  floats_beside zero b i l o = refl
  floats_beside (suc n) b i l o =
      f32_beside (up_to n (λ j s. put_f32 s (i + 4 * j) (at l j)) b) (i + 4 * n) (at l n) (out_part i (4 * suc n) (i + 4 * n) 4 (omega arith) (omega arith) o)
      ∙ floats_beside n b i l (out_part i (4 * suc n) i (4 * n) (omega arith) (omega arith) o)
