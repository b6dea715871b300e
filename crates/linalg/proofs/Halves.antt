-- A turn of a matrix and of its vectors is made of two, by one rotation, and three turns of both are a sweep: also where the matrix is
-- turned three times first. Assumes nothing.
use Rattle.std.specs.Prelude.{ℕ, ◌≡◌, refl, Bool, true, false, cond, Option, Some, None, Float}
use Rattle.std.proofs.Common.{ap, ◌∙◌}
use Rattle.std.specs.Float.Ieee.{eq}
use Rattle.real.specs.Float.{◌⊖◌, f0}
use Rattle.linalg.specs.declared.jacobi.Rotation.{Rotation}
use Rattle.linalg.specs.Eigen.{Rows, entry, tangent, cosine, sine, rotate_columns, rotate_rows, rotate, turn, sweep}
use Rattle.linalg.specs.Steps.{rotation_for, rotation_at}

unfoldable pub turn_matrix : ℕ → ℕ → Option Rotation → Rows → Rows
turn_matrix p q None a = a
turn_matrix p q (Some g) a = rotate_rows p q g.c g.s (rotate_columns p q g.c g.s a)

unfoldable pub turn_vectors : ℕ → ℕ → Option Rotation → Rows → Rows
turn_vectors p q None v = v
turn_vectors p q (Some g) v = rotate_columns p q g.c g.s v

-- ---- the matrix, whatever p and q
module _ (p q : ℕ) (a : Rows) where
  pub kept : {g : Option Rotation} → g ≡ None → a ≡ turn_matrix p q g a
  unfolding turn_matrix
  kept e = rw e refl

  pub turned : {g : Option Rotation} {z : Rotation} {b r : Rows} → g ≡ Some z → b ≡ rotate_columns p q z.c z.s a → r ≡ rotate_rows p q z.c z.s b
      → r ≡ turn_matrix p q g a
  unfolding turn_matrix
  turned e eb er = rw (e, ← eb) er

-- ---- a sweep

-- the pair p, q: with no rotation both stay
pub turn_both : (p q : ℕ) (a v : Rows) {g : Option Rotation} {b w : Rows} → g ≡ rotation_at a p q → b ≡ turn_matrix p q g a → w ≡ turn_vectors p q g v
    → record { a = b; v = w } ≡ turn p q (record { a = a; v = v })
unfolding turn turn_matrix turn_vectors rotation_for
turn_both p q a v eg eb ew = rw (ew, eb, eg) (by_case (eq (entry a p q) f0))
  where
    t : Float
    t = tangent (entry a p q) (entry a q q ⊖ entry a p p)

    found : Bool → Option Rotation
    found z = cond z None (Some (record { c = cosine t; s = sine t }))

    by_case : (z : Bool) → record { a = turn_matrix p q (found z) a; v = turn_vectors p q (found z) v }
        ≡ cond z (record { a = a; v = v }) (rotate p q (cosine t) (sine t) (record { a = a; v = v }))
    by_case true = refl
    by_case false = refl

pub swept : (a v : Rows) {a1 a2 a3 v1 v2 v3 : Rows} {g1 g2 g3 : Option Rotation}
    → g1 ≡ rotation_at a 0 1 → a1 ≡ turn_matrix 0 1 g1 a
    → g2 ≡ rotation_at a1 0 2 → a2 ≡ turn_matrix 0 2 g2 a1
    → g3 ≡ rotation_at a2 1 2 → a3 ≡ turn_matrix 1 2 g3 a2
    → v1 ≡ turn_vectors 0 1 g1 v → v2 ≡ turn_vectors 0 2 g2 v1 → v3 ≡ turn_vectors 1 2 g3 v2
    → record { a = a3; v = v3 } ≡ sweep (record { a = a; v = v })
unfolding sweep
swept a v {a1} {a2} {a3} {v1} {v2} {v3} p1 q1 p2 q2 p3 q3 w1 w2 w3 =
    turn_both 1 2 a2 v2 p3 q3 w3
    ∙ ap (turn 1 2) (turn_both 0 2 a1 v1 p2 q2 w2 ∙ ap (turn 0 2) (turn_both 0 1 a v p1 q1 w1))
