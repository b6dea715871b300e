-- What a step puts back into the bytes of a row's record: the fields that the Rust assigns in an update, in a warm start and in a solve; of `pos` and `grad` an update puts all (see there). Definitions only. Assumes nothing.
use Rattle.std.specs.Prelude.{ℕ, Bool, cond, List, Float}
use Rattle.little_endian.specs.Bytes.{bytes2, patch}
use Rattle.records.specs.Layout as at
use Rattle.scalar.specs.declared.SoftScalarConstraint.{SoftScalarConstraint}
use Rattle.scalar.specs.declared.Response.{Response}
use Rattle.cell.specs.declared.Pose.{Pose}
use Rattle.cell.specs.declared.Impulses.{Impulses}
use Rattle.corotational.specs.declared.Volume.{Volume}
use Rattle.corotational.specs.declared.CorotationalRow.{CorotationalRow}
use Rattle.neo_hookean.specs.NeoHookean.{is_fresh}
use Rattle.neo_hookean.specs.declared.Stiffness.{Stiffness}
use Rattle.neo_hookean.specs.declared.NeoHookeanRow.{NeoHookeanRow}
use Rattle.rows.specs.Row.{Row, Constraint, scalar, corotational, neo_hookean}
use Rattle.floats.specs.Fields.{floats_at, put_f32, put_four, put_mat3, put_quat, put_floats}

-- a flag is stored as 0 or 1
abbrev pub put_flag : List ℕ → ℕ → Bool → List ℕ
put_flag b k t = patch b k (bytes2 (cond t 1 0))

-- ---- an update. It puts all of `pos`, and all of a scalar row's `grad`. For a place that is not fetched, and for the gradients that a distance row does not assign, what is put is what was read:
-- for the finite floats of an accepted frame these are the same bytes, which is a law of the crate `unassigned`

unfoldable pub put_response : Response → List ℕ → List ℕ
put_response s b =
    put_f32 (put_f32 (put_f32 (put_f32 b at.scalar_inv_lhs s.inv_lhs) at.scalar_cfm_gain s.cfm_gain) at.scalar_rhs s.rhs) at.scalar_peak_impulse s.peak_impulse

unfoldable pub put_scalar : SoftScalarConstraint → List ℕ → List ℕ
put_scalar r b = put_response r.response (put_four (put_four b at.row_pos r.pos) at.scalar_grad r.grad)

unfoldable pub put_pose : Pose → List ℕ → List ℕ
put_pose p b =
    put_floats 6 (put_mat3 (put_quat (put_four (put_flag b at.elastic_inverted p.inverted) at.row_pos p.pos) at.elastic_rotation p.rotation) at.elastic_rot_mat p.rot_mat)
    at.elastic_strain p.strain

unfoldable pub put_volume : Volume → List ℕ → List ℕ
put_volume v b =
    put_f32
    (put_floats 6
    (put_floats 6 (put_f32 (put_f32 (put_four b at.coro_grad_vol v.grad_vol) at.coro_cfm_gain_vol v.cfm_gain_vol) at.coro_rhs_vol v.rhs_vol) at.coro_b v.b)
    at.coro_z v.z)
    at.coro_inv_s v.inv_s

unfoldable pub put_corotational : CorotationalRow → List ℕ → List ℕ
put_corotational r b = put_volume r.volume (put_pose r.pose b)

-- the stiffness and the block's inverse, where they were renewed
unfoldable pub put_renewed : Stiffness → List Float → List ℕ → List ℕ
put_renewed s invA b = put_floats 36 (put_floats 36 (put_floats 6 b at.neo_stiffness_strain s.stiffness_strain) at.neo_m s.m) at.elastic_inv_a invA

-- b is the record as it was: it says at which strain the stiffness was computed
abbrev pub put_block : NeoHookeanRow → List ℕ → List ℕ → List ℕ
put_block r b c = cond (is_fresh r.pose.strain (floats_at 6 b at.neo_stiffness_strain)) c (put_renewed r.stiffness r.compliance.inv_a c)

unfoldable pub put_neo_hookean : NeoHookeanRow → List ℕ → List ℕ
put_neo_hookean r b = put_floats 6 (put_block r b (put_pose r.pose b)) at.neo_dt_grad r.stiffness.dt_grad

unfoldable pub put_constraint : Constraint → List ℕ → List ℕ
put_constraint (scalar r) b = put_scalar r b
put_constraint (corotational r) b = put_corotational r b
put_constraint (neo_hookean r) b = put_neo_hookean r b

unfoldable pub put_update : Row → List ℕ → List ℕ
put_update r b = put_flag (put_constraint r.constraint b) at.row_strained r.strained

-- ---- a warm start and a solve: the impulses. A neo-Hookean solve assigns no volumetric impulse

unfoldable pub put_impulses : Impulses → List ℕ → List ℕ
put_impulses l b = put_f32 (put_floats 6 b at.elastic_strain_impulse l.strain) at.elastic_vol_impulse l.vol

unfoldable pub warm_constraint : Constraint → List ℕ → List ℕ
warm_constraint (scalar c) b = put_f32 b at.scalar_impulse c.response.impulse
warm_constraint (corotational c) b = put_impulses c.impulses b
warm_constraint (neo_hookean c) b = put_impulses c.impulses b

unfoldable pub put_warm : Row → List ℕ → List ℕ
put_warm r b = warm_constraint r.constraint b

unfoldable pub solve_constraint : Constraint → List ℕ → List ℕ
solve_constraint (scalar c) b = put_f32 b at.scalar_impulse c.response.impulse
solve_constraint (corotational c) b = put_impulses c.impulses b
solve_constraint (neo_hookean c) b = put_floats 6 b at.elastic_strain_impulse c.impulses.strain

unfoldable pub put_solve : Row → List ℕ → List ℕ
put_solve r b = solve_constraint r.constraint b
