-- What is put into a list of bytes leaves its length. Assumes nothing.
use Rattle.std.proofs.Common.{ℕ, zero, suc, ◌+◌, ◌*◌, ◌≡◌, refl, ◌∙◌, List, Float, length}
use Rattle.loops.specs.Loops.{up_to}
use Rattle.real.specs.Float.{at}
use Rattle.little_endian.specs.Bytes.{f32_bytes}
use Rattle.little_endian.proofs.Patch.{length-patch}
use Rattle.vector.specs.declared.Vec3.{Vec3}
use Rattle.vector.specs.declared.Mat3.{Mat3}
use Rattle.vector.specs.declared.Quat.{Quat}
use Rattle.vector.specs.declared.Four.{Four}
use Rattle.floats.specs.Fields.{put_f32, put_vec3, put_four, put_mat3, put_quat, put_floats}

pub length-put_f32 : (b : List ℕ) (k : ℕ) (x : Float) → length (put_f32 b k x) ≡ length b
length-put_f32 b k x = length-patch b k (f32_bytes x)

pub length-put_vec3 : (b : List ℕ) (k : ℕ) (v : Vec3) → length (put_vec3 b k v) ≡ length b
unfolding put_vec3
length-put_vec3 b k v =
    length-put_f32 (put_f32 (put_f32 b k v.x) (k + 4) v.y) (k + 8) v.z
    ∙ length-put_f32 (put_f32 b k v.x) (k + 4) v.y
    ∙ length-put_f32 b k v.x

pub length-put_four : (b : List ℕ) (k : ℕ) (v : Four Vec3) → length (put_four b k v) ≡ length b
unfolding put_four
length-put_four b k v = simp length-put_vec3

pub length-put_mat3 : (b : List ℕ) (k : ℕ) (m : Mat3) → length (put_mat3 b k m) ≡ length b
unfolding put_mat3
length-put_mat3 b k m = simp length-put_vec3

pub length-put_quat : (b : List ℕ) (k : ℕ) (q : Quat) → length (put_quat b k q) ≡ length b
unfolding put_quat
length-put_quat b k q =
    length-put_f32 (put_f32 (put_f32 (put_f32 b k q.x) (k + 4) q.y) (k + 8) q.z) (k + 12) q.w
    ∙ length-put_f32 (put_f32 (put_f32 b k q.x) (k + 4) q.y) (k + 8) q.z
    ∙ length-put_f32 (put_f32 b k q.x) (k + 4) q.y
    ∙ length-put_f32 b k q.x

pub length-put_floats : (n : ℕ) (b : List ℕ) (k : ℕ) (l : List Float) → length (put_floats n b k l) ≡ length b
unfolding put_floats
length-put_floats zero b k l = refl
length-put_floats (suc n) b k l = length-put_f32 (up_to n (λ i s. put_f32 s (k + 4 * i) (at l i)) b) (k + 4 * n) (at l n) ∙ length-put_floats n b k l
