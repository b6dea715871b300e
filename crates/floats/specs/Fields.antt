-- Vectors, matrices and lists of floats at a byte of a record, read and put. Definitions only. Assumes nothing.
use Rattle.std.specs.Prelude.{ℕ, ◌+◌, ◌*◌, List, Float}
use Rattle.loops.specs.Fill.{tabulate}
use Rattle.loops.specs.Loops.{up_to}
use Rattle.real.specs.Float.{at}
use Rattle.little_endian.specs.Bytes.{le32, f32_at, f32_bytes, patch}
use Rattle.vector.specs.declared.Vec3.{Vec3}
use Rattle.vector.specs.declared.Mat3.{Mat3}
use Rattle.vector.specs.declared.Quat.{Quat}
use Rattle.vector.specs.declared.Four.{Four}
use Rattle.places.specs.Places.{Ids, Masses}

-- ---- read

unfoldable pub vec3_at : List ℕ → ℕ → Vec3
vec3_at b k = record { x = f32_at b k; y = f32_at b (k + 4); z = f32_at b (k + 8) }

unfoldable pub four_at : List ℕ → ℕ → Four Vec3
four_at b k = record { a = vec3_at b k; b = vec3_at b (k + 12); c = vec3_at b (k + 24); d = vec3_at b (k + 36) }

-- column by column
unfoldable pub mat3_at : List ℕ → ℕ → Mat3
mat3_at b k = record { x = vec3_at b k; y = vec3_at b (k + 12); z = vec3_at b (k + 24) }

unfoldable pub quat_at : List ℕ → ℕ → Quat
quat_at b k = record { x = f32_at b k; y = f32_at b (k + 4); z = f32_at b (k + 8); w = f32_at b (k + 12) }

unfoldable pub masses_at : List ℕ → ℕ → Masses
masses_at b k = record { a = f32_at b k; b = f32_at b (k + 4); c = f32_at b (k + 8); d = f32_at b (k + 12) }

unfoldable pub ids_at : List ℕ → ℕ → Ids
ids_at b k = record { a = le32 b k; b = le32 b (k + 4); c = le32 b (k + 8); d = le32 b (k + 12) }

-- four that stand one after another, each of n bytes
abbrev pub four_of : {T : Type 0} → (List ℕ → ℕ → T) → ℕ → List ℕ → ℕ → Four T
four_of read n b k = record { a = read b k; b = read b (k + n); c = read b (k + 2 * n); d = read b (k + 3 * n) }

-- n floats
unfoldable pub floats_at : ℕ → List ℕ → ℕ → List Float
floats_at n b k = tabulate n (λ i. f32_at b (k + 4 * i))

-- ---- put: one float after another

abbrev pub put_f32 : List ℕ → ℕ → Float → List ℕ
put_f32 b k x = patch b k (f32_bytes x)

unfoldable pub put_vec3 : List ℕ → ℕ → Vec3 → List ℕ
put_vec3 b k v = put_f32 (put_f32 (put_f32 b k v.x) (k + 4) v.y) (k + 8) v.z

unfoldable pub put_four : List ℕ → ℕ → Four Vec3 → List ℕ
put_four b k v = put_vec3 (put_vec3 (put_vec3 (put_vec3 b k v.a) (k + 12) v.b) (k + 24) v.c) (k + 36) v.d

unfoldable pub put_mat3 : List ℕ → ℕ → Mat3 → List ℕ
put_mat3 b k m = put_vec3 (put_vec3 (put_vec3 b k m.x) (k + 12) m.y) (k + 24) m.z

unfoldable pub put_quat : List ℕ → ℕ → Quat → List ℕ
put_quat b k q = put_f32 (put_f32 (put_f32 (put_f32 b k q.x) (k + 4) q.y) (k + 8) q.z) (k + 12) q.w

unfoldable pub put_floats : ℕ → List ℕ → ℕ → List Float → List ℕ
put_floats n b k l = up_to n (λ i s. put_f32 s (k + 4 * i) (at l i)) b

abbrev pub put_four_of : {T : Type 0} → (List ℕ → ℕ → T → List ℕ) → ℕ → List ℕ → ℕ → Four T → List ℕ
put_four_of put n b k v = put (put (put (put b k v.a) (k + n) v.b) (k + 2 * n) v.c) (k + 3 * n) v.d
