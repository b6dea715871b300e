-- What the parts of the code's turn do. The rotation is found before it is used; the matrix and its vectors are in one struct.
-- Definitions only. Assumes nothing.
use Rattle.std.specs.Prelude.{ℕ, cond, Option, Some, None, Float}
use Rattle.std.specs.Float.Ieee.{eq}
use Rattle.real.specs.Float.{◌⊖◌, f0}
use Rattle.linalg.specs.declared.jacobi.Rotation.{Rotation}
use Rattle.linalg.specs.declared.jacobi.Turning.{Turning}
use Rattle.linalg.specs.Eigen.{Rows, State, entry, tangent, cosine, sine}

-- the roots are not taken where there is nothing to zero
unfoldable pub rotation_for : Float → Float → Option Rotation
rotation_for apq d = cond (eq apq f0) None (Some (record { c = cosine (tangent apq d); s = sine (tangent apq d) }))

abbrev pub rotation_at : Rows → ℕ → ℕ → Option Rotation
rotation_at a p q = rotation_for (entry a p q) (entry a q q ⊖ entry a p p)

-- the matrix and its vectors, as the code holds them
abbrev pub state_of : Turning → State
state_of t = record { a = t.a; v = t.v }
