-- Where each field of a record lies, as an offset from the record's start. Arrays lie element after element, matrices column by column.
-- Definitions only. Assumes nothing.
use Rattle.std.specs.Prelude.{ℕ}

-- ---- the start of every record: its length, u32, and at 4 its kind

-- kind, u16
abbrev pub kind_at : ℕ
kind_at = 4

-- ---- head: 26 bytes

-- points N, u32
abbrev pub head_points : ℕ
head_points = 6

-- rows R, u32
abbrev pub head_rows : ℕ
head_rows = 10

-- mode, u16: bit 0 update, bit 1 warm
abbrev pub head_mode : ℕ
head_mode = 14

-- resweeps, u16
abbrev pub head_resweeps : ℕ
head_resweeps = 16

-- warm coefficient, f32
abbrev pub head_warm : ℕ
head_warm = 18

-- least strain, f32
abbrev pub head_least : ℕ
head_least = 22

abbrev pub head_end : ℕ
head_end = 26

-- ---- point: 30 bytes

-- position, 3 f32
abbrev pub point_position : ℕ
point_position = 6

-- velocity, 3 f32
abbrev pub point_velocity : ℕ
point_velocity = 18

abbrev pub point_end : ℕ
point_end = 30

-- ---- the start of every row

-- colour, u16
abbrev pub row_colour : ℕ
row_colour = 6

-- strained, u16
abbrev pub row_strained : ℕ
row_strained = 8

-- 4 ids, u32
abbrev pub row_ids : ℕ
row_ids = 14

-- `pos`, 12 f32
abbrev pub row_pos : ℕ
row_pos = 30

-- `im`, 4 f32
abbrev pub row_im : ℕ
row_im = 78

-- ---- scalar row: 182 bytes

-- type, u16: 0 distance, 1 dihedral, 2 cell volume
abbrev pub scalar_type : ℕ
scalar_type = 10

-- count, u16
abbrev pub scalar_count : ℕ
scalar_count = 12

-- `grad`, 12 f32
abbrev pub scalar_grad : ℕ
scalar_grad = 94

-- `rest`, f32
abbrev pub scalar_rest : ℕ
scalar_rest = 142

-- `erp_inv_dt`, f32
abbrev pub scalar_erp_inv_dt : ℕ
scalar_erp_inv_dt = 146

-- `cfm_coeff`, f32
abbrev pub scalar_cfm_coeff : ℕ
scalar_cfm_coeff = 150

-- `inv_lhs`, f32
abbrev pub scalar_inv_lhs : ℕ
scalar_inv_lhs = 154

-- `cfm_gain`, f32
abbrev pub scalar_cfm_gain : ℕ
scalar_cfm_gain = 158

-- `rhs`, f32
abbrev pub scalar_rhs : ℕ
scalar_rhs = 162

-- `impulse`, f32
abbrev pub scalar_impulse : ℕ
scalar_impulse = 166

-- `peak_impulse`, f32
abbrev pub scalar_peak_impulse : ℕ
scalar_peak_impulse = 170

-- `impulse_bounds`, the lower, f32
abbrev pub scalar_lower : ℕ
scalar_lower = 174

-- `impulse_bounds`, the upper, f32
abbrev pub scalar_upper : ℕ
scalar_upper = 178

abbrev pub scalar_end : ℕ
scalar_end = 182

-- ---- elastic rows, up to where the two kinds part

-- inverted, u16
abbrev pub elastic_inverted : ℕ
elastic_inverted = 10

-- u16: `volumetric` of a corotational row, 0 of a neo-Hookean one
abbrev pub elastic_fourth : ℕ
elastic_fourth = 12

-- `coeffs`, 12 f32
abbrev pub elastic_coeffs : ℕ
elastic_coeffs = 94

-- `inv_rest_matrix`, 9 f32
abbrev pub elastic_inv_rest_matrix : ℕ
elastic_inv_rest_matrix = 142

-- `rotation`, 4 f32, xyzw
abbrev pub elastic_rotation : ℕ
elastic_rotation = 178

-- `rot_mat`, 9 f32
abbrev pub elastic_rot_mat : ℕ
elastic_rot_mat = 194

-- `inv_a`, 36 f32
abbrev pub elastic_inv_a : ℕ
elastic_inv_a = 230

-- `strain_cap`, 6 f32
abbrev pub elastic_strain_cap : ℕ
elastic_strain_cap = 374

-- `strain`, 6 f32
abbrev pub elastic_strain : ℕ
elastic_strain = 398

-- `strain_impulse`, 6 f32
abbrev pub elastic_strain_impulse : ℕ
elastic_strain_impulse = 422

-- `vol_impulse`, f32
abbrev pub elastic_vol_impulse : ℕ
elastic_vol_impulse = 446

-- ---- corotational row: 618 bytes

-- `erp_strain`, 6 f32
abbrev pub coro_erp_strain : ℕ
coro_erp_strain = 450

-- `cfm_strain`, 6 f32
abbrev pub coro_cfm_strain : ℕ
coro_cfm_strain = 474

-- `erp_vol`, f32
abbrev pub coro_erp_vol : ℕ
coro_erp_vol = 498

-- `cfm_coeff_vol`, f32
abbrev pub coro_cfm_coeff_vol : ℕ
coro_cfm_coeff_vol = 502

-- `vol_cap`, f32
abbrev pub coro_vol_cap : ℕ
coro_vol_cap = 506

-- `grad_vol`, 12 f32
abbrev pub coro_grad_vol : ℕ
coro_grad_vol = 510

-- `cfm_gain_vol`, f32
abbrev pub coro_cfm_gain_vol : ℕ
coro_cfm_gain_vol = 558

-- `rhs_vol`, f32
abbrev pub coro_rhs_vol : ℕ
coro_rhs_vol = 562

-- `b`, 6 f32
abbrev pub coro_b : ℕ
coro_b = 566

-- `z`, 6 f32
abbrev pub coro_z : ℕ
coro_z = 590

-- `inv_s`, f32
abbrev pub coro_inv_s : ℕ
coro_inv_s = 614

abbrev pub coro_end : ℕ
coro_end = 618

-- ---- neo-Hookean row: 678 bytes

-- `dt`, f32
abbrev pub neo_dt : ℕ
neo_dt = 450

-- `mu`, f32
abbrev pub neo_mu : ℕ
neo_mu = 454

-- `lambda`, f32
abbrev pub neo_lambda : ℕ
neo_lambda = 458

-- `damping`, 6 f32
abbrev pub neo_damping : ℕ
neo_damping = 462

-- `stiffness_strain`, 6 f32
abbrev pub neo_stiffness_strain : ℕ
neo_stiffness_strain = 486

-- `m`, 36 f32
abbrev pub neo_m : ℕ
neo_m = 510

-- `dt_grad`, 6 f32
abbrev pub neo_dt_grad : ℕ
neo_dt_grad = 654

abbrev pub neo_end : ℕ
neo_end = 678
