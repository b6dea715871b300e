-- Strains as six numbers: the diagonal first, then (0, 1), (0, 2), (1, 2); and the sums over a cell's four places. As soft_elastic_constraint.rs has them. Definitions only. Assumes nothing.
use Rattle.std.specs.Prelude.{ℕ, cond, List, [], ◌∷◌, eqb, get_or, Float}
use Rattle.strain.specs.Matrix.{from_fn}
use Rattle.real.specs.Float.{◌⊕◌, ◌⊗◌, at, f0, f1, f½, f¼}
use Rattle.vector.specs.Vector as v
use Rattle.vector.specs.declared.Vec3.{Vec3}
use Rattle.vector.specs.declared.Mat3.{Mat3}
use Rattle.vector.specs.declared.Four.{Four}
use Rattle.places.specs.Places.{Masses}

-- ½ (m_ab + m_ba)
unfoldable pub strain_rows_of : Mat3 → List Float
strain_rows_of m =
    m.x.x ∷ m.y.y ∷ m.z.z ∷ (f½ ⊗ (m.y.x ⊕ m.x.y)) ∷ (f½ ⊗ (m.z.x ⊕ m.x.z)) ∷ (f½ ⊗ (m.z.y ⊕ m.y.z)) ∷ []

-- m_aa, and m_ab + m_ba
unfoldable pub strain_rows_dual : Mat3 → List Float
strain_rows_dual m = m.x.x ∷ m.y.y ∷ m.z.z ∷ (m.y.x ⊕ m.x.y) ∷ (m.z.x ⊕ m.x.z) ∷ (m.z.y ⊕ m.y.z) ∷ []

-- λ on the diagonal, and half of it on both entries of the others
unfoldable pub strain_tensor : List Float → Mat3
strain_tensor l =
    let h01 = f½ ⊗ at l 3 in
    let h02 = f½ ⊗ at l 4 in
    let h12 = f½ ⊗ at l 5 in
    record { x = record { x = at l 0; y = h01; z = h02 }; y = record { x = h01; y = at l 1; z = h12 }; z = record { x = h02; y = h12; z = at l 2 } }

unfoldable pub strain_matrix : List Float → Mat3
strain_matrix e =
    record {
      x = record { x = at e 0; y = at e 3; z = at e 4 };
      y = record { x = at e 3; y = at e 1; z = at e 5 };
      z = record { x = at e 4; y = at e 5; z = at e 2 };
    }

-- Σ a_p b_pj, from the zero vector
abbrev pub outer_column : Four Vec3 → Float → Float → Float → Float → Vec3
outer_column a k0 k1 k2 k3 =
    v.add (v.add (v.add (v.add v.zero_vector (v.scale a.a k0)) (v.scale a.b k1)) (v.scale a.c k2)) (v.scale a.d k3)

-- Σ a_p b_pᵀ, by columns
unfoldable pub outer_sum : Four Vec3 → Four Vec3 → Mat3
outer_sum a b =
    record {
      x = outer_column a b.a.x b.b.x b.c.x b.d.x;
      y = outer_column a b.a.y b.b.y b.c.y b.d.y;
      z = outer_column a b.a.z b.b.z b.c.z b.d.z;
    }

-- the coefficients times the inverse masses
unfoldable pub weighted : Four Vec3 → Masses → Four Vec3
weighted c im = record { a = v.scale c.a im.a; b = v.scale c.b im.b; c = v.scale c.c im.c; d = v.scale c.d im.d }

-- ---- the effective-mass block, from G = Σ w_p c_p c_pᵀ

-- the pair (i, j) of strain row r: `strain_pairs`
abbrev pub first_of : ℕ → ℕ
first_of r = get_or (0 ∷ 1 ∷ 2 ∷ 0 ∷ 0 ∷ 1 ∷ []) r 0

abbrev pub second_of : ℕ → ℕ
second_of r = get_or (0 ∷ 1 ∷ 2 ∷ 1 ∷ 2 ∷ 2 ∷ []) r 0

abbrev pub delta : ℕ → ℕ → Float
delta i j = cond (eqb i j) f1 f0

-- part i of a vector
abbrev pub part : Vec3 → ℕ → Float
part a i = cond (eqb i 0) a.x (cond (eqb i 1) a.y a.z)

abbrev pub col : Mat3 → ℕ → Vec3
col g j = cond (eqb j 0) g.x (cond (eqb j 1) g.y g.z)

-- row i, column j
abbrev pub entry3 : Mat3 → ℕ → ℕ → Float
entry3 g i j = part (col g j) i

-- ¼ (δ_ik G_jl + δ_il G_jk + δ_jk G_il + δ_jl G_ik): each δ, 0 or 1, multiplies
abbrev pub block_entry : Mat3 → ℕ → ℕ → ℕ → ℕ → Float
block_entry g i j k l = f¼ ⊗ (delta i k ⊗ entry3 g j l ⊕ delta i l ⊗ entry3 g j k ⊕ delta j k ⊗ entry3 g i l ⊕ delta j l ⊗ entry3 g i k)

-- row r = (i, j) and column s = (k, l) of the block
abbrev pub block_at : Mat3 → ℕ → ℕ → Float
block_at g r s = block_entry g (first_of r) (second_of r) (first_of s) (second_of s)

unfoldable pub strain_block_from_g : Mat3 → List Float
strain_block_from_g g = from_fn (block_at g)
