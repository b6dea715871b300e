-- The corotational model: the volumetric row and its Schur complement, and the solve. As soft_elastic_constraint.rs has them. Definitions only. Assumes nothing.
use Rattle.std.specs.Prelude.{Bool, cond, List, Float}
use Rattle.real.specs.Float.{◌⊕◌, ◌⊖◌, ◌⊗◌, f0, f1}
use Rattle.real.specs.Real.{inv}
use Rattle.vector.specs.Vector as v
use Rattle.vector.specs.Matrix.{transpose, mul_vec, mul_mat, determinant}
use Rattle.vector.specs.declared.Vec3.{Vec3}
use Rattle.vector.specs.declared.Mat3.{Mat3}
use Rattle.vector.specs.declared.Four.{Four}
use Rattle.places.specs.Places.{Holds, Masses, rate_of}
use Rattle.places.specs.declared.Solved.{Solved}
use Rattle.strain.specs.Six.{add6, sub6, scale6, component_mul6, dot6}
use Rattle.strain.specs.Matrix.{mat_vec}
use Rattle.linalg.specs.Products.{cofactor}
use Rattle.cell.specs.Strain.{strain_rows_of, outer_sum}
use Rattle.cell.specs.Cell.{capped, strain_rates, volume_losses}
use Rattle.cell.specs.declared.Impulses.{Impulses}
use Rattle.corotational.specs.declared.Springs.{Springs}
use Rattle.corotational.specs.declared.Volume.{Volume}

-- ---- update, with f the deformation gradient

-- the columns of cofactor(F) · Dm⁻ᵀ for places 1 to 3, and minus their sum, from zero, for place 0
unfoldable pub volumetric_gradient : Mat3 → Mat3 → Four Vec3
volumetric_gradient f invRest =
    let g = mul_mat (cofactor f) (transpose invRest) in
    record { a = v.sub (v.sub (v.sub v.zero_vector g.x) g.y) g.z; b = g.x; c = g.y; d = g.z }

-- the volumetric effective mass: Σ w_p |g_p|²
unfoldable pub volume_weight : Four Vec3 → Masses → Float
volume_weight g im =
    f0 ⊕ im.a ⊗ v.length_squared g.a ⊕ im.b ⊗ v.length_squared g.b ⊕ im.c ⊗ v.length_squared g.c ⊕ im.d ⊗ v.length_squared g.d

-- (Rᵀ g) w
unfoldable pub turned_back : Mat3 → Vec3 → Float → Vec3
turned_back invRot g w = v.scale (mul_vec invRot g) w

unfoldable pub turned_gradients : Mat3 → Four Vec3 → Masses → Four Vec3
turned_gradients rot g im =
    let invRot = transpose rot in
    record { a = turned_back invRot g.a im.a; b = turned_back invRot g.b im.b; c = turned_back invRot g.c im.c; d = turned_back invRot g.d im.d }

-- of the volumetric row with the strain rows
unfoldable pub coupling : Mat3 → Four Vec3 → Masses → Four Vec3 → List Float
coupling rot g im coeffs = strain_rows_of (outer_sum (turned_gradients rot g im) coeffs)

-- the error det F - 1, drawn into its cap, times the coefficient
unfoldable pub volume_bias : Springs → Bool → Mat3 → Float
volume_bias s inverted f = capped inverted (determinant f ⊖ f1) s.vol_cap ⊗ s.erp_vol

-- the inverse of the Schur complement w + gain - b·z, and 0 where there is no volumetric row
unfoldable pub inv_schur : Bool → Float → Float → List Float → List Float → Float
inv_schur volumetric w gain b z = cond volumetric (inv (w ⊕ gain ⊖ dot6 b z)) f0

-- rot and inverted are those of the same update
unfoldable pub update_volume : Mat3 → Four Vec3 → Masses → Springs → List Float → Mat3 → Bool → Mat3 → Volume
update_volume invRest coeffs im s invA rot inverted f =
    let g = volumetric_gradient f invRest in
    let w = volume_weight g im in
    let gain = w ⊗ s.cfm_coeff_vol in
    let b = coupling rot g im coeffs in
    let z = mat_vec invA b in
    record {
      grad_vol = g;
      cfm_gain_vol = gain;
      rhs_vol = volume_bias s inverted f;
      b = b;
      z = z;
      inv_s = inv_schur s.volumetric w gain b z;
    }

-- ---- solve

-- rate + erp strain - cfm impulse
unfoldable pub residual : List Float → List Float → List Float → List Float → List Float → List Float
residual erp cfm strain impulse rate = sub6 (add6 rate (component_mul6 erp strain)) (component_mul6 cfm impulse)

-- what the strain rows would take if there were no volumetric row
unfoldable pub strain_step : Mat3 → Four Vec3 → List Float → List Float → List Float → List Float → List Float → Holds → List Float
strain_step rot coeffs strain invA erp cfm impulse vel = mat_vec invA (residual erp cfm strain impulse (strain_rates rot coeffs vel))

-- the volumetric row goes first: y is what the strain rows would take
unfoldable pub volume_step : Volume → Float → Float → List Float → Float
volume_step u impulse rate y = u.inv_s ⊗ (u.rhs_vol ⊖ u.cfm_gain_vol ⊗ impulse ⊕ rate ⊖ dot6 u.b y)

-- impulses d and x more, and what each place is to lose for them
unfoldable pub applied : Mat3 → Four Vec3 → Masses → Impulses → List Float → Four Vec3 → Float → Solved Impulses
applied rot coeffs im l d grad x =
    record { state = record { strain = add6 l.strain d; vol = l.vol ⊕ x }; loss = volume_losses rot coeffs im d grad x }

-- the volumetric row first, then the strain rows, which would take y, corrected by the coupling
unfoldable pub solve_rows : Mat3 → Four Vec3 → Masses → Impulses → Volume → Holds → List Float → Solved Impulses
solve_rows rot coeffs im l u vel y =
    let x = volume_step u l.vol (rate_of u.grad_vol vel) y in
    applied rot coeffs im l (sub6 y (scale6 u.z x)) u.grad_vol x

unfoldable pub solve_corotational : Mat3 → Four Vec3 → Masses → List Float → List Float → List Float → List Float → Impulses → Volume → Holds → Solved Impulses
solve_corotational rot coeffs im strain invA erp cfm l u vel = solve_rows rot coeffs im l u vel (strain_step rot coeffs strain invA erp cfm l.strain vel)

-- the warm start: both impulses times the coefficient, and what each place is to lose for them
unfoldable pub warmstart_corotational : Mat3 → Four Vec3 → Masses → Impulses → Four Vec3 → Float → Solved Impulses
warmstart_corotational rot coeffs im l grad coeff =
    let strain = scale6 l.strain coeff in
    let vol = l.vol ⊗ coeff in
    record { state = record { strain = strain; vol = vol }; loss = volume_losses rot coeffs im strain grad vol }
