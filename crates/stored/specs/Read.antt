-- A row from the bytes of its record. Definitions only. Assumes nothing.
use Rattle.std.specs.Prelude.{ℕ, cond, List, eqb}
use Rattle.little_endian.specs.Bytes.{le16, f32_at}
use Rattle.records.specs.Layout as at
use Rattle.scalar.specs.declared.SoftScalarConstraint.{SoftScalarConstraint}
use Rattle.scalar.specs.declared.Spring.{Spring}
use Rattle.scalar.specs.declared.Response.{Response}
use Rattle.cell.specs.declared.Cell.{Cell}
use Rattle.cell.specs.declared.Pose.{Pose}
use Rattle.cell.specs.declared.Compliance.{Compliance}
use Rattle.cell.specs.declared.Impulses.{Impulses}
use Rattle.corotational.specs.declared.Springs.{Springs}
use Rattle.corotational.specs.declared.Volume.{Volume}
use Rattle.corotational.specs.declared.CorotationalRow.{CorotationalRow}
use Rattle.neo_hookean.specs.declared.Material.{Material}
use Rattle.neo_hookean.specs.declared.Stiffness.{Stiffness}
use Rattle.neo_hookean.specs.declared.NeoHookeanRow.{NeoHookeanRow}
use Rattle.rows.specs.Row.{Row, Constraint, scalar, corotational, neo_hookean}
use Rattle.floats.specs.Fields.{four_at, mat3_at, quat_at, masses_at, ids_at, floats_at}

-- ---- scalar

unfoldable pub spring_at : List ℕ → Spring
spring_at b =
    record {
      rest = f32_at b at.scalar_rest;
      erp_inv_dt = f32_at b at.scalar_erp_inv_dt;
      cfm_coeff = f32_at b at.scalar_cfm_coeff;
      lower = f32_at b at.scalar_lower;
      upper = f32_at b at.scalar_upper;
    }

unfoldable pub response_at : List ℕ → Response
response_at b =
    record {
      inv_lhs = f32_at b at.scalar_inv_lhs;
      cfm_gain = f32_at b at.scalar_cfm_gain;
      rhs = f32_at b at.scalar_rhs;
      impulse = f32_at b at.scalar_impulse;
      peak_impulse = f32_at b at.scalar_peak_impulse;
    }

unfoldable pub scalar_of : List ℕ → SoftScalarConstraint
scalar_of b =
    record {
      kind = le16 b at.scalar_type;
      count = le16 b at.scalar_count;
      pos = four_at b at.row_pos;
      im = masses_at b at.row_im;
      grad = four_at b at.scalar_grad;
      spring = spring_at b;
      response = response_at b;
    }

-- ---- elastic

unfoldable pub cell_of : List ℕ → Cell
cell_of b =
    record {
      im = masses_at b at.row_im;
      coeffs = four_at b at.elastic_coeffs;
      inv_rest_matrix = mat3_at b at.elastic_inv_rest_matrix;
      strain_cap = floats_at 6 b at.elastic_strain_cap;
    }

unfoldable pub pose_of : List ℕ → Pose
pose_of b =
    record {
      pos = four_at b at.row_pos;
      rotation = quat_at b at.elastic_rotation;
      rot_mat = mat3_at b at.elastic_rot_mat;
      strain = floats_at 6 b at.elastic_strain;
      inverted = eqb (le16 b at.elastic_inverted) 1;
    }

unfoldable pub compliance_of : List ℕ → Compliance
compliance_of b = record { inv_a = floats_at 36 b at.elastic_inv_a }

unfoldable pub impulses_of : List ℕ → Impulses
impulses_of b = record { strain = floats_at 6 b at.elastic_strain_impulse; vol = f32_at b at.elastic_vol_impulse }

unfoldable pub springs_of : List ℕ → Springs
springs_of b =
    record {
      erp_strain = floats_at 6 b at.coro_erp_strain;
      cfm_strain = floats_at 6 b at.coro_cfm_strain;
      erp_vol = f32_at b at.coro_erp_vol;
      cfm_coeff_vol = f32_at b at.coro_cfm_coeff_vol;
      vol_cap = f32_at b at.coro_vol_cap;
      volumetric = eqb (le16 b at.elastic_fourth) 1;
    }

unfoldable pub volume_of : List ℕ → Volume
volume_of b =
    record {
      grad_vol = four_at b at.coro_grad_vol;
      cfm_gain_vol = f32_at b at.coro_cfm_gain_vol;
      rhs_vol = f32_at b at.coro_rhs_vol;
      b = floats_at 6 b at.coro_b;
      z = floats_at 6 b at.coro_z;
      inv_s = f32_at b at.coro_inv_s;
    }

unfoldable pub corotational_of : List ℕ → CorotationalRow
corotational_of b =
    record {
      cell = cell_of b;
      pose = pose_of b;
      compliance = compliance_of b;
      impulses = impulses_of b;
      springs = springs_of b;
      volume = volume_of b;
    }

unfoldable pub material_of : List ℕ → Material
material_of b = record { dt = f32_at b at.neo_dt; lame = record { mu = f32_at b at.neo_mu; lambda = f32_at b at.neo_lambda }; damping = floats_at 6 b at.neo_damping }

unfoldable pub stiffness_of : List ℕ → Stiffness
stiffness_of b = record { stiffness_strain = floats_at 6 b at.neo_stiffness_strain; m = floats_at 36 b at.neo_m; dt_grad = floats_at 6 b at.neo_dt_grad }

unfoldable pub neo_hookean_of : List ℕ → NeoHookeanRow
neo_hookean_of b =
    record {
      cell = cell_of b;
      pose = pose_of b;
      compliance = compliance_of b;
      impulses = impulses_of b;
      material = material_of b;
      stiffness = stiffness_of b;
    }

-- ---- any row, by its kind: 3 scalar, 4 corotational, 5 neo-Hookean

unfoldable pub constraint_of : List ℕ → Constraint
constraint_of b =
    cond (eqb (le16 b at.kind_at) 3) (scalar (scalar_of b)) (cond (eqb (le16 b at.kind_at) 4) (corotational (corotational_of b)) (neo_hookean (neo_hookean_of b)))

unfoldable pub row_of : List ℕ → Row
row_of b = record { colour = le16 b at.row_colour; strained = eqb (le16 b at.row_strained) 1; ids = ids_at b at.row_ids; constraint = constraint_of b }
