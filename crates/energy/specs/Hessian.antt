-- The gradient of the neo-Hookean energy and its tangent stiffness, as soft_neo_hookean.rs has them. `mu` is written μ and `lambda` λ', both times the rest volume. Definitions only. Assumes nothing.
use Rattle.std.specs.Prelude.{List, Float, replicate}
use Rattle.root.specs.Root.{root_of}
use Rattle.real.specs.Float.{◌⊕◌, ◌⊖◌, ◌⊗◌, f0, f1, f2}
use Rattle.real.specs.Real.{max}
use Rattle.vector.specs.Vector.{element_sum}
use Rattle.vector.specs.Matrix.{identity, add_mat, scale_mat, determinant}
use Rattle.vector.specs.declared.Vec3.{Vec3}
use Rattle.vector.specs.declared.Mat3.{Mat3}
use Rattle.strain.specs.Six.{add6, scale6}
use Rattle.strain.specs.Matrix.{ger}
use Rattle.linalg.specs.Products.{cofactor, outer_product}
use Rattle.linalg.specs.Eigen.{symmetric_eigen}
use Rattle.linalg.specs.declared.Eigen.{Eigen}
use Rattle.cell.specs.Strain.{strain_matrix, strain_rows_dual}
use Rattle.energy.specs.declared.Energy.{Energy}

-- S = I + ε, κ = λ' (det S - 1) - μ, and the gradient μ S + κ cof S
unfoldable pub gradient : Float → Float → List Float → Energy
gradient mu lambda strain =
    let s = add_mat identity (strain_matrix strain) in
    let kappa = lambda ⊗ (determinant s ⊖ f1) ⊖ mu in
    record { s = s; kappa = kappa; grad = strain_rows_dual (add_mat (scale_mat s mu) (scale_mat (cofactor s) kappa)) }

-- ---- the Hessian in the principal frame of S, with sigma the principal stretches

-- `others`: the product of the stretches other than a and b, from 1. Here a ≠ b, and r is the one that remains
abbrev pub other : Float → Float
other r = f1 ⊗ r

-- and here a = b: for each axis the product of the two other stretches
unfoldable pub areas : Vec3 → Vec3
areas sigma = record { x = f1 ⊗ sigma.y ⊗ sigma.z; y = f1 ⊗ sigma.x ⊗ sigma.z; z = f1 ⊗ sigma.x ⊗ sigma.y }

-- m with h_ab more at (a, b) and at (b, a)
abbrev pub off_diagonal : Mat3 → Float → Float → Float → Mat3
off_diagonal m h01 h02 h12 =
    record {
      x = record { x = m.x.x; y = m.x.y ⊕ h01; z = m.x.z ⊕ h02 };
      y = record { x = m.y.x ⊕ h01; y = m.y.y; z = m.y.z ⊕ h12 };
      z = record { x = m.z.x ⊕ h02; y = m.z.y ⊕ h12; z = m.z.z };
    }

-- μ I, κ times the remaining stretch off the diagonal, and λ' g gᵀ with g the areas
unfoldable pub principal_hessian : Float → Float → Float → Vec3 → Mat3
principal_hessian mu lambda kappa sigma =
    let g = areas sigma in
    add_mat
    (off_diagonal (scale_mat identity mu) (kappa ⊗ other sigma.z) (kappa ⊗ other sigma.y) (kappa ⊗ other sigma.x))
    (scale_mat (outer_product g g) lambda)

-- a scaling mode's stiffness nu, at least its rest curvature: 2μ I + (λ' - μ) 11ᵀ along the mode
unfoldable pub floored : Float → Float → Float → Vec3 → Float
floored mu lambda nu mode = let sum = element_sum mode in max nu (f2 ⊗ mu ⊕ (lambda ⊖ mu) ⊗ sum ⊗ sum)

-- the three of them
unfoldable pub stiffnesses : Float → Float → Eigen → Vec3
stiffnesses mu lambda h =
    record {
      x = floored mu lambda h.values.x h.vectors.x;
      y = floored mu lambda h.values.y h.vectors.y;
      z = floored mu lambda h.values.z h.vectors.z;
    }

-- ---- back to strain coordinates, with q the principal axes

-- t_a = (q_a q_aᵀ) : ε
unfoldable pub scaling : Vec3 → List Float
scaling q = strain_rows_dual (outer_product q q)

-- w = Σ v_a t_a, from zeros
unfoldable pub mode_of : List Float → List Float → List Float → Vec3 → List Float
mode_of t0 t1 t2 v = add6 (add6 (add6 (replicate 6 f0) (scale6 t0 v.x)) (scale6 t1 v.y)) (scale6 t2 v.z)

-- k and ν w wᵀ for each scaling mode
unfoldable pub with_scaling : Vec3 → Mat3 → Mat3 → List Float → List Float
with_scaling nu q v k =
    let t0 = scaling q.x in
    let t1 = scaling q.y in
    let t2 = scaling q.z in
    ger nu.z (mode_of t0 t1 t2 v.z) (ger nu.y (mode_of t0 t1 t2 v.y) (ger nu.x (mode_of t0 t1 t2 v.x) k))

-- the stiffness of a flip, at least 2μ, with r the stretch of the axis that remains
unfoldable pub flip_stiffness : Float → Float → Float → Float
flip_stiffness mu kappa r = max (mu ⊖ kappa ⊗ other r) (f2 ⊗ mu)

-- k and h u uᵀ for the flip of axes a and b: u = √2 (a bᵀ) : ε
unfoldable pub with_flip : Float → Vec3 → Vec3 → Float → List Float → List Float
with_flip h a b sqrt2 k = ger h (scale6 (strain_rows_dual (outer_product a b)) sqrt2) k

-- the pairs (0, 1), (0, 2) and (1, 2), in this order
unfoldable pub with_flips : Float → Float → Eigen → List Float → List Float
with_flips mu kappa e k =
    let sqrt2 = root_of f2 in
    let sigma = e.values in
    let q = e.vectors in
    with_flip (flip_stiffness mu kappa sigma.x) q.y q.z sqrt2
    (with_flip (flip_stiffness mu kappa sigma.y) q.x q.z sqrt2
    (with_flip (flip_stiffness mu kappa sigma.z) q.x q.y sqrt2 k))

unfoldable pub hessian : Float → Float → Mat3 → Float → List Float
hessian mu lambda s kappa =
    let e = symmetric_eigen s in
    let h = symmetric_eigen (principal_hessian mu lambda kappa e.values) in
    with_flips mu kappa e (with_scaling (stiffnesses mu lambda h) e.vectors h.vectors (replicate 36 f0))
