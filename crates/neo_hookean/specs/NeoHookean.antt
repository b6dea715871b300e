-- The neo-Hookean model: the kept or renewed stiffness and block, and the solve. As soft_neo_hookean.rs and soft_elastic_constraint.rs have them. Definitions only. Assumes nothing.
use Rattle.std.specs.Prelude.{Bool, cond, List, Float}
use Rattle.std.specs.Float.{binary32}
use Rattle.std.specs.Float.Ieee.{of_bits}
use Rattle.real.specs.Float.{◌⊗◌}
use Rattle.vector.specs.declared.Mat3.{Mat3}
use Rattle.vector.specs.declared.Vec3.{Vec3}
use Rattle.vector.specs.declared.Four.{Four}
use Rattle.places.specs.Places.{Holds, Masses}
use Rattle.strain.specs.Six.{add6, sub6, scale6, all_within6}
use Rattle.strain.specs.Matrix.{mat_vec, mat_mul, from_diagonal, identity6, add36, scale36}
use Rattle.inverse.specs.Inverse.{try_inverse}
use Rattle.cell.specs.Strain.{outer_sum, weighted, strain_block_from_g}
use Rattle.cell.specs.Cell.{strain_rates, strain_losses}
use Rattle.cell.specs.declared.Impulses.{Impulses}
use Rattle.places.specs.declared.Solved.{Solved}
use Rattle.energy.specs.Hessian.{gradient, hessian}
use Rattle.energy.specs.declared.Energy.{Energy}
use Rattle.neo_hookean.specs.declared.Material.{Material}
use Rattle.neo_hookean.specs.declared.Stiffness.{Stiffness}
use Rattle.neo_hookean.specs.declared.Block.{Block}

-- ---- update

-- STIFFNESS_UPDATE_STRAIN: the f32 nearest 0.02
abbrev pub nearby : Float
nearby = of_bits binary32 0x3ca3d70a

-- every strain is within 0.02 of the one that the stiffness was computed at; a difference of exactly that is, and a NaN is not
unfoldable pub is_fresh : List Float → List Float → Bool
is_fresh strain last = all_within6 (sub6 strain last) nearby

-- M = dt (dt K + D)
unfoldable pub stiffness_matrix : Material → Energy → List Float
stiffness_matrix p e = scale36 (add36 (scale36 (hessian p.lame.mu p.lame.lambda e.s e.kappa) p.dt) (from_diagonal p.damping)) p.dt

-- the effective-mass block A, from G = Σ w_p c_p c_pᵀ
unfoldable pub strain_block : Four Vec3 → Masses → List Float
strain_block coeffs im = strain_block_from_g (outer_sum (weighted coeffs im) coeffs)

-- the block that is inverted, M A + I
unfoldable pub block : Four Vec3 → Masses → List Float → List Float
block coeffs im m = add36 (mat_mul m (strain_block coeffs im)) identity6

-- what a move past 0.02 assigns; a zero pivot makes the whole inverse zeros
unfoldable pub renewed : Four Vec3 → Masses → Material → Energy → List Float → List Float → Block
renewed coeffs im p e strain dtGrad =
    let m = stiffness_matrix p e in
    record { stiffness = record { stiffness_strain = strain; m = m; dt_grad = dtGrad }; compliance = record { inv_a = try_inverse (block coeffs im m) } }

-- what any other update assigns: `dt_grad` alone
abbrev pub kept : Stiffness → List Float → List Float → Block
kept k invA dtGrad = record { stiffness = record { stiffness_strain = k.stiffness_strain; m = k.m; dt_grad = dtGrad }; compliance = record { inv_a = invA } }

unfoldable pub update_block : Four Vec3 → Masses → Material → Stiffness → List Float → List Float → Block
update_block coeffs im p k invA strain =
    let e = gradient p.lame.mu p.lame.lambda strain in
    let dtGrad = scale6 e.grad p.dt in
    cond (is_fresh strain k.stiffness_strain) (kept k invA dtGrad) (renewed coeffs im p e strain dtGrad)

-- ---- solve

-- M rate + dt g - λ, where pull is M rate
unfoldable pub residual : List Float → List Float → List Float → List Float
residual pull dtGrad impulse = sub6 (add6 pull dtGrad) impulse

-- Δλ = (M A + I)⁻¹ (M rate + dt g - λ)
unfoldable pub strain_step : Mat3 → Four Vec3 → List Float → List Float → List Float → List Float → Holds → List Float
strain_step rot coeffs invA m dtGrad impulse vel = mat_vec invA (residual (mat_vec m (strain_rates rot coeffs vel)) dtGrad impulse)

-- impulses d more, and what each place is to lose for them; the volumetric impulse stays: this model never uses it
unfoldable pub applied : Mat3 → Four Vec3 → Masses → Impulses → List Float → Solved Impulses
applied rot coeffs im l d = record { state = record { strain = add6 l.strain d; vol = l.vol }; loss = strain_losses rot coeffs im d }

unfoldable pub solve_neo_hookean : Mat3 → Four Vec3 → Masses → List Float → List Float → List Float → Impulses → Holds → Solved Impulses
solve_neo_hookean rot coeffs im invA m dtGrad l vel = applied rot coeffs im l (strain_step rot coeffs invA m dtGrad l.strain vel)

-- the warm start scales the volumetric impulse all the same
unfoldable pub warmstart_neo_hookean : Mat3 → Four Vec3 → Masses → Impulses → Float → Solved Impulses
warmstart_neo_hookean rot coeffs im l coeff =
    let strain = scale6 l.strain coeff in
    record { state = record { strain = strain; vol = l.vol ⊗ coeff }; loss = strain_losses rot coeffs im strain }
