-- Quaternions, as rotations; w is the real part. Definitions only. Assumes nothing.
use Rattle.std.specs.Prelude.{Float}
use Rattle.real.specs.Float.{◌⊕◌, ◌⊖◌, ◌⊗◌, ◌⊘◌, f1}
use Rattle.real.specs.SinCos.{sin_cos}
use Rattle.root.specs.Root.{root_of}
use Rattle.vector.specs.declared.Vec3.{Vec3}
use Rattle.vector.specs.declared.Mat3.{Mat3}
use Rattle.vector.specs.declared.Quat.{Quat}

unfoldable pub product : Quat → Quat → Quat
product p q =
    record {
      x = p.w ⊗ q.x ⊕ p.x ⊗ q.w ⊕ p.y ⊗ q.z ⊖ p.z ⊗ q.y;
      y = p.w ⊗ q.y ⊖ p.x ⊗ q.z ⊕ p.y ⊗ q.w ⊕ p.z ⊗ q.x;
      z = p.w ⊗ q.z ⊕ p.x ⊗ q.y ⊖ p.y ⊗ q.x ⊕ p.z ⊗ q.w;
      w = p.w ⊗ q.w ⊖ p.x ⊗ q.x ⊖ p.y ⊗ q.y ⊖ p.z ⊗ q.z;
    }

-- each part times k
abbrev pub scaled_by : Quat → Float → Quat
scaled_by q k = record { x = q.x ⊗ k; y = q.y ⊗ k; z = q.z ⊗ k; w = q.w ⊗ k }

-- times 1/length, and no guard against a length of zero
unfoldable pub normalise : Quat → Quat
normalise q = scaled_by q (f1 ⊘ root_of (q.x ⊗ q.x ⊕ q.y ⊗ q.y ⊕ q.z ⊗ q.z ⊕ q.w ⊗ q.w))

unfoldable pub to_matrix : Quat → Mat3
to_matrix q =
    let x2 = q.x ⊕ q.x in
    let y2 = q.y ⊕ q.y in
    let z2 = q.z ⊕ q.z in
    record {
      x = record { x = f1 ⊖ (q.y ⊗ y2 ⊕ q.z ⊗ z2); y = q.x ⊗ y2 ⊕ q.w ⊗ z2; z = q.x ⊗ z2 ⊖ q.w ⊗ y2 };
      y = record { x = q.x ⊗ y2 ⊖ q.w ⊗ z2; y = f1 ⊖ (q.x ⊗ x2 ⊕ q.z ⊗ z2); z = q.y ⊗ z2 ⊕ q.w ⊗ x2 };
      z = record { x = q.x ⊗ z2 ⊕ q.w ⊗ y2; y = q.y ⊗ z2 ⊖ q.w ⊗ x2; z = f1 ⊖ (q.x ⊗ x2 ⊕ q.y ⊗ y2) };
    }

-- the axis times the sine of half of w, and the cosine
unfoldable pub from_axis_angle : Vec3 → Float → Quat
from_axis_angle axis w = let half = sin_cos w in record { x = axis.x ⊗ half.s; y = axis.y ⊗ half.s; z = axis.z ⊗ half.s; w = half.c }
