-- The steps over rows and points that are stored as bytes are local: what demand 3 asks of them. Assumes nothing.
use Rattle.std.specs.Prelude.{ℕ, ◌≤◌, refl, Bool, true, false, cond, List, Float}
use Rattle.std.proofs.Common.{◌∙◌, inl, inr, arith}
use Rattle.std.proofs.Math.Option.{Option}
use Rattle.relisting.specs.Access.{Access, Local}
use Rattle.relisting.specs.Steps.{nothing}
use Rattle.relisting.specs.Build.{then_local, choose_local, nothing_local}
use Rattle.relisting.specs.Stored.{stored, storing_local}
use Rattle.neo_hookean.specs.NeoHookean.{is_fresh}
use Rattle.scalar.specs.declared.Response.{Response}
use Rattle.scalar.specs.declared.SoftScalarConstraint.{SoftScalarConstraint}
use Rattle.cell.specs.declared.Pose.{Pose}
use Rattle.cell.specs.declared.Impulses.{Impulses}
use Rattle.corotational.specs.declared.Volume.{Volume}
use Rattle.neo_hookean.specs.declared.Stiffness.{Stiffness}
use Rattle.neo_hookean.specs.declared.NeoHookeanRow.{NeoHookeanRow}
use Rattle.records.specs.Layout as at
use Rattle.rows.specs.Row.{Row, Key, Constraint, scalar, corotational, neo_hookean}
use Rattle.rows.specs.Local as rows
use Rattle.floats.specs.Fields.{floats_at, put_f32, put_four, put_mat3, put_quat, put_floats}
use Rattle.stored.specs.Read.{row_of}
use Rattle.stored.specs.Put.{put_flag, put_response, put_scalar, put_pose, put_volume, put_corotational, put_renewed, put_block}
use Rattle.stored.specs.Put.{put_neo_hookean, put_constraint, put_update, put_impulses, warm_constraint, put_warm, solve_constraint}
use Rattle.stored.specs.Put.{put_solve}
use Rattle.stored.specs.Points.{position, velocity, lose, Points, only, update, warm, solve, main_step, resweep_step}
use Rattle.stored.specs.Kept.{Kept, Clear, f32_kept, four_kept, mat3_kept, quat_kept, floats_kept, flag_kept, key_kept}

-- past the masses
high : (i n : ℕ) → 94 ≤ i → Clear i n
high i n h = inr (inr h)

positions : Clear at.row_pos 48
positions = inr (inl (omega arith, omega arith))

response_kept : (s : Response) (b : List ℕ) → Kept (put_response s b) b
unfolding put_response
response_kept s b k p =
    let b1 : List ℕ = put_f32 b at.scalar_inv_lhs s.inv_lhs in
    let b2 : List ℕ = put_f32 b1 at.scalar_cfm_gain s.cfm_gain in
    let b3 : List ℕ = put_f32 b2 at.scalar_rhs s.rhs in
    f32_kept b3 at.scalar_peak_impulse s.peak_impulse (high 170 4 (omega arith)) k p
    ∙ f32_kept b2 at.scalar_rhs s.rhs (high 162 4 (omega arith)) k p
    ∙ f32_kept b1 at.scalar_cfm_gain s.cfm_gain (high 158 4 (omega arith)) k p
    ∙ f32_kept b at.scalar_inv_lhs s.inv_lhs (high 154 4 (omega arith)) k p

scalar_kept : (r : SoftScalarConstraint) (b : List ℕ) → Kept (put_scalar r b) b
unfolding put_scalar
scalar_kept r b k p =
    let b1 : List ℕ = put_four b at.row_pos r.pos in
    let b2 : List ℕ = put_four b1 at.scalar_grad r.grad in
    response_kept r.response b2 k p
    ∙ four_kept b1 at.scalar_grad r.grad (high 94 48 (omega arith)) k p
    ∙ four_kept b at.row_pos r.pos positions k p

pose_kept : (q : Pose) (b : List ℕ) → Kept (put_pose q b) b
unfolding put_pose
pose_kept q b k p =
    let b1 : List ℕ = put_flag b at.elastic_inverted q.inverted in
    let b2 : List ℕ = put_four b1 at.row_pos q.pos in
    let b3 : List ℕ = put_quat b2 at.elastic_rotation q.rotation in
    let b4 : List ℕ = put_mat3 b3 at.elastic_rot_mat q.rot_mat in
    floats_kept 6 b4 at.elastic_strain q.strain (high 398 24 (omega arith)) k p
    ∙ mat3_kept b3 at.elastic_rot_mat q.rot_mat (high 194 36 (omega arith)) k p
    ∙ quat_kept b2 at.elastic_rotation q.rotation (high 178 16 (omega arith)) k p
    ∙ four_kept b1 at.row_pos q.pos positions k p
    ∙ flag_kept b at.elastic_inverted q.inverted (inl (omega arith, omega arith)) k p

volume_kept : (v : Volume) (b : List ℕ) → Kept (put_volume v b) b
unfolding put_volume
volume_kept v b k p =
    let b1 : List ℕ = put_four b at.coro_grad_vol v.grad_vol in
    let b2 : List ℕ = put_f32 b1 at.coro_cfm_gain_vol v.cfm_gain_vol in
    let b3 : List ℕ = put_f32 b2 at.coro_rhs_vol v.rhs_vol in
    let b4 : List ℕ = put_floats 6 b3 at.coro_b v.b in
    let b5 : List ℕ = put_floats 6 b4 at.coro_z v.z in
    f32_kept b5 at.coro_inv_s v.inv_s (high 614 4 (omega arith)) k p
    ∙ floats_kept 6 b4 at.coro_z v.z (high 590 24 (omega arith)) k p
    ∙ floats_kept 6 b3 at.coro_b v.b (high 566 24 (omega arith)) k p
    ∙ f32_kept b2 at.coro_rhs_vol v.rhs_vol (high 562 4 (omega arith)) k p
    ∙ f32_kept b1 at.coro_cfm_gain_vol v.cfm_gain_vol (high 558 4 (omega arith)) k p
    ∙ four_kept b at.coro_grad_vol v.grad_vol (high 510 48 (omega arith)) k p

renewed_kept : (s : Stiffness) (invA : List Float) (b : List ℕ) → Kept (put_renewed s invA b) b
unfolding put_renewed
renewed_kept s invA b k p =
    let b1 : List ℕ = put_floats 6 b at.neo_stiffness_strain s.stiffness_strain in
    let b2 : List ℕ = put_floats 36 b1 at.neo_m s.m in
    floats_kept 36 b2 at.elastic_inv_a invA (high 230 144 (omega arith)) k p
    ∙ floats_kept 36 b1 at.neo_m s.m (high 510 144 (omega arith)) k p
    ∙ floats_kept 6 b at.neo_stiffness_strain s.stiffness_strain (high 486 24 (omega arith)) k p

block_kept : (r : NeoHookeanRow) (c : List ℕ) (t : Bool) → Kept (cond t c (put_renewed r.stiffness r.compliance.inv_a c)) c
block_kept r c true k p = refl
block_kept r c false k p = renewed_kept r.stiffness r.compliance.inv_a c k p

neo_kept : (r : NeoHookeanRow) (b : List ℕ) → Kept (put_neo_hookean r b) b
unfolding put_neo_hookean
neo_kept r b k p =
    let b1 : List ℕ = put_pose r.pose b in
    let t : Bool = is_fresh r.pose.strain (floats_at 6 b at.neo_stiffness_strain) in
    floats_kept 6 (put_block r b b1) at.neo_dt_grad r.stiffness.dt_grad (high 654 24 (omega arith)) k p
    ∙ block_kept r b1 t k p
    ∙ pose_kept r.pose b k p

pub constraint_kept : (c : Constraint) (b : List ℕ) → Kept (put_constraint c b) b
unfolding put_constraint put_corotational
constraint_kept (scalar r) b k p = scalar_kept r b k p
constraint_kept (corotational r) b k p = volume_kept r.volume (put_pose r.pose b) k p ∙ pose_kept r.pose b k p
constraint_kept (neo_hookean r) b k p = neo_kept r b k p

update_kept : (r : Row) (b : List ℕ) → Kept (put_update r b) b
unfolding put_update
update_kept r b k p =
    flag_kept (put_constraint r.constraint b) at.row_strained r.strained (inl (omega arith, omega arith)) k p
    ∙ constraint_kept r.constraint b k p

impulses_kept : (l : Impulses) (b : List ℕ) → Kept (put_impulses l b) b
unfolding put_impulses
impulses_kept l b k p =
    f32_kept (put_floats 6 b at.elastic_strain_impulse l.strain) at.elastic_vol_impulse l.vol (high 446 4 (omega arith)) k p
    ∙ floats_kept 6 b at.elastic_strain_impulse l.strain (high 422 24 (omega arith)) k p

pub warm_kept : (c : Constraint) (b : List ℕ) → Kept (warm_constraint c b) b
unfolding warm_constraint
warm_kept (scalar c) b k p = f32_kept b at.scalar_impulse c.response.impulse (high 166 4 (omega arith)) k p
warm_kept (corotational c) b k p = impulses_kept c.impulses b k p
warm_kept (neo_hookean c) b k p = impulses_kept c.impulses b k p

pub solve_kept : (c : Constraint) (b : List ℕ) → Kept (solve_constraint c b) b
unfolding solve_constraint
solve_kept (scalar c) b k p = f32_kept b at.scalar_impulse c.response.impulse (high 166 4 (omega arith)) k p
solve_kept (corotational c) b k p = impulses_kept c.impulses b k p
solve_kept (neo_hookean c) b k p = floats_kept 6 b at.elastic_strain_impulse c.impulses.strain (high 422 24 (omega arith)) k p

-- ---- the steps

module _ (N : ℕ) where
  -- rows as bytes among points as bytes
  abbrev pub Sheet : Access (List ℕ) Points (Option (List ℕ)) Key
  Sheet = stored (rows.Sheet position velocity lose N) row_of

  update_local : (least : Float) → Local Sheet (update N least)
  unfolding put_update
  update_local least = storing_local (rows.Sheet position velocity lose N) row_of put_update (λ r x e. key_kept (put_update r x) x (update_kept r x)) _ (rows.update_local position velocity lose N least)

  warm_local : (coeff : Float) → Local Sheet (warm N coeff)
  unfolding put_warm
  warm_local coeff = storing_local (rows.Sheet position velocity lose N) row_of put_warm (λ r x e. key_kept (put_warm r x) x (warm_kept r.constraint x)) _ (rows.warm_local position velocity lose N coeff)

  solve_local : Local Sheet (solve N)
  unfolding put_solve
  solve_local = storing_local (rows.Sheet position velocity lose N) row_of put_solve (λ r x e. key_kept (put_solve r x) x (solve_kept r.constraint x)) _ (rows.solve_local position velocity lose N)

  only_local : (t : Bool) (f : List ℕ → Points → List ℕ × Points) → Local Sheet f → Local Sheet (only t f)
  only_local true f L = L
  only_local false f L = nothing_local Sheet

  pub main_local : (u w : Bool) (coeff least : Float) → Local Sheet (main_step N u w coeff least)
  main_local u w coeff least =
      then_local Sheet _ _ (then_local Sheet _ _ (only_local u _ (update_local least)) (only_local w _ (warm_local coeff))) solve_local

  pub resweep_local : Local Sheet (resweep_step N)
  resweep_local = choose_local Sheet (λ b. (row_of b).strained) _ nothing solve_local (nothing_local Sheet)
