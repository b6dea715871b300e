-- 3x3 matrices by columns: x, y and z are columns 0, 1 and 2. Definitions only. Assumes nothing.
use Rattle.std.specs.Prelude.{Float}
use Rattle.real.specs.Float.{f0, f1}
use Rattle.vector.specs.Vector.{add, sub, scale, dot, cross}
use Rattle.vector.specs.declared.Vec3.{Vec3}
use Rattle.vector.specs.declared.Mat3.{Mat3}

unfoldable pub identity : Mat3
identity = record { x = record { x = f1; y = f0; z = f0 }; y = record { x = f0; y = f1; z = f0 }; z = record { x = f0; y = f0; z = f1 } }

unfoldable pub transpose : Mat3 → Mat3
transpose m =
    record {
      x = record { x = m.x.x; y = m.y.x; z = m.z.x };
      y = record { x = m.x.y; y = m.y.y; z = m.z.y };
      z = record { x = m.x.z; y = m.y.z; z = m.z.z };
    }

unfoldable pub add_mat : Mat3 → Mat3 → Mat3
add_mat m n = record { x = add m.x n.x; y = add m.y n.y; z = add m.z n.z }

unfoldable pub sub_mat : Mat3 → Mat3 → Mat3
sub_mat m n = record { x = sub m.x n.x; y = sub m.y n.y; z = sub m.z n.z }

unfoldable pub scale_mat : Mat3 → Float → Mat3
scale_mat m k = record { x = scale m.x k; y = scale m.y k; z = scale m.z k }

unfoldable pub mul_vec : Mat3 → Vec3 → Vec3
mul_vec m v = add (add (scale m.x v.x) (scale m.y v.y)) (scale m.z v.z)

unfoldable pub mul_mat : Mat3 → Mat3 → Mat3
mul_mat m n = record { x = mul_vec m n.x; y = mul_vec m n.y; z = mul_vec m n.z }

unfoldable pub determinant : Mat3 → Float
determinant m = dot m.z (cross m.x m.y)
