-- An update leaves every byte that it does not assign. Assumes nothing.
use Rattle.std.proofs.Common.{ℕ, ◌≡◌, refl, ◌∙◌, inr, Bool, true, false, cond, not, List, arith, eqb, get_or, Float, eqb-true}
use Rattle.little_endian.specs.Bytes.{le16}
use Rattle.little_endian.proofs.Parts.{Bytes}
use Rattle.places.specs.Places.{Holds}
use Rattle.places.specs.Places.{refreshed}
use Rattle.scalar.specs.Row as s
use Rattle.scalar.specs.declared.Response.{Response}
use Rattle.scalar.specs.declared.SoftScalarConstraint.{SoftScalarConstraint}
use Rattle.cell.specs.Cell.{posed, update_pose}
use Rattle.cell.specs.declared.Pose.{Pose}
use Rattle.corotational.specs.Row as c
use Rattle.corotational.specs.declared.Volume.{Volume}
use Rattle.corotational.specs.declared.CorotationalRow.{CorotationalRow}
use Rattle.neo_hookean.specs.Row as n
use Rattle.neo_hookean.specs.declared.Stiffness.{Stiffness}
use Rattle.neo_hookean.specs.declared.NeoHookeanRow.{NeoHookeanRow}
use Rattle.records.specs.declared.Due.TheVariants.{Row}
use Rattle.records.specs.Layout as at
use Rattle.rows.specs.Step.{update_of, strained_of}
use Rattle.floats.specs.Fields.{four_at, put_f32, put_four, put_mat3, put_quat, put_floats}
use Rattle.acceptance.specs.Whole.{Good}
use Rattle.stored.specs.Read.{scalar_of, spring_at, pose_of, corotational_of, neo_hookean_of, constraint_of}
use Rattle.stored.specs.Put.{put_flag, put_response, put_scalar, put_pose, put_volume, put_corotational, put_renewed, put_block}
use Rattle.stored.specs.Put.{put_neo_hookean, put_constraint}
use Rattle.stored.specs.Phases.{update_row}
use Rattle.unassigned.specs.Assigned.{floats, ◌and◌, when, Out, Outside, positions, scalar_update, pose_update, volume_update, block_update}
use Rattle.unassigned.specs.Assigned.{is_still_fresh, assigned_in_update}
use Rattle.unassigned.proofs.Beside.{outside_split, flag_beside, f32_beside, four_beside, mat3_beside, quat_beside, floats_beside}
use Rattle.unassigned.proofs.Back.{Agree, Finite12, bytes_put_flag, bytes_put_four, positions_stay, gradients_stay}
use Rattle.unassigned.proofs.Finite.{good_pos, good_grad}
use Rattle.unassigned.proofs.Impulses.{by_kind}

module _ (k : ℕ) where
  -- ---- a scalar row

  response_stays : (r : Response) (b : List ℕ) → Out k at.scalar_inv_lhs 4 → Out k at.scalar_cfm_gain 4 → Out k at.scalar_rhs 4 → Out k at.scalar_peak_impulse 4
      → get_or (put_response r b) k 0 ≡ get_or b k 0
  unfolding put_response
  response_stays r b o1 o2 o3 o4 =
      let b1 : List ℕ = put_f32 b at.scalar_inv_lhs r.inv_lhs in
      let b2 : List ℕ = put_f32 b1 at.scalar_cfm_gain r.cfm_gain in
      let b3 : List ℕ = put_f32 b2 at.scalar_rhs r.rhs in
      f32_beside k b3 at.scalar_peak_impulse r.peak_impulse o4
      ∙ f32_beside k b2 at.scalar_rhs r.rhs o3
      ∙ f32_beside k b1 at.scalar_cfm_gain r.cfm_gain o2
      ∙ f32_beside k b at.scalar_inv_lhs r.inv_lhs o1

  module _ (b : List ℕ) (y : Bytes b) (held : Holds) where
    -- b with its positions anew; the gradients are as they were
    abbrev placed : List ℕ
    placed = put_four b at.row_pos (refreshed held (four_at b at.row_pos))

    placed_agrees : Agree placed b at.scalar_grad 48
    placed_agrees j p q = four_beside j b at.row_pos (refreshed held (four_at b at.row_pos)) (inr (omega arith))

    placed_bytes : Bytes placed
    placed_bytes = bytes_put_four b at.row_pos (refreshed held (four_at b at.row_pos)) y

    module _ (fp : Finite12 b at.row_pos) (fg : Finite12 b at.scalar_grad) where
      scalar_stays : (t : Bool) → Outside k (scalar_update held (le16 b at.scalar_type))
          → get_or (put_flag (put_scalar (s.begin (scalar_of b) held) b) at.row_strained t) k 0 ≡ get_or b k 0
      unfolding scalar_update put_scalar s.begin s.update s.with_peak scalar_of
      scalar_stays t o =
          let r : SoftScalarConstraint = s.begin (scalar_of b) held in
          let x = outside_split k (positions held) _ o.1.1.1.1.1 in
          flag_beside k (put_scalar r b) at.row_strained t o.0
          ∙ response_stays r.response (put_four placed at.scalar_grad r.grad) o.1.0 o.1.1.0 o.1.1.1.0 o.1.1.1.1.0
          ∙ gradients_stay k b placed placed_agrees placed_bytes fg (refreshed held (four_at b at.row_pos)) (spring_at b).rest (le16 b at.scalar_type) x.1
          ∙ positions_stay k held b b (λ j p q. refl) y fp x.0

    -- ---- elastic rows

    module _ (fp : Finite12 b at.row_pos) where
      -- a pose whose positions are those that were fetched
      pose_puts : (p : Pose) → p.pos ≡ refreshed held (four_at b at.row_pos) → Outside k (pose_update held) → get_or (put_pose p b) k 0 ≡ get_or b k 0
      unfolding pose_update put_pose
      pose_puts p e o =
          let b1 : List ℕ = put_flag b at.elastic_inverted p.inverted in
          let b2 : List ℕ = put_four b1 at.row_pos p.pos in
          let b3 : List ℕ = put_quat b2 at.elastic_rotation p.rotation in
          let b4 : List ℕ = put_mat3 b3 at.elastic_rot_mat p.rot_mat in
          let a : Agree b1 b at.row_pos 48 = λ j l h. flag_beside j b at.elastic_inverted p.inverted (inr (omega arith)) in
          floats_beside k 6 b4 at.elastic_strain p.strain o.1.1.1.1.0
          ∙ mat3_beside k b3 at.elastic_rot_mat p.rot_mat o.1.1.1.0
          ∙ quat_beside k b2 at.elastic_rotation p.rotation o.1.1.0
          ∙ rw e (positions_stay k held b b1 a (bytes_put_flag b at.elastic_inverted p.inverted y) fp o.1.1.1.1.1)
          ∙ flag_beside k b at.elastic_inverted p.inverted o.1.0

      volume_stays : (v : Volume) (d : List ℕ) → Outside k volume_update → get_or (put_volume v d) k 0 ≡ get_or d k 0
      unfolding volume_update put_volume
      volume_stays v d o =
          let b1 : List ℕ = put_four d at.coro_grad_vol v.grad_vol in
          let b2 : List ℕ = put_f32 b1 at.coro_cfm_gain_vol v.cfm_gain_vol in
          let b3 : List ℕ = put_f32 b2 at.coro_rhs_vol v.rhs_vol in
          let b4 : List ℕ = put_floats 6 b3 at.coro_b v.b in
          let b5 : List ℕ = put_floats 6 b4 at.coro_z v.z in
          f32_beside k b5 at.coro_inv_s v.inv_s o.1.1.1.1.1.0
          ∙ floats_beside k 6 b4 at.coro_z v.z o.1.1.1.1.0
          ∙ floats_beside k 6 b3 at.coro_b v.b o.1.1.1.0
          ∙ f32_beside k b2 at.coro_rhs_vol v.rhs_vol o.1.1.0
          ∙ f32_beside k b1 at.coro_cfm_gain_vol v.cfm_gain_vol o.1.0
          ∙ four_beside k d at.coro_grad_vol v.grad_vol o.0

      strained_out : Outside k (pose_update held) → Out k at.row_strained 2
      unfolding pose_update
      strained_out o = o.0

      corotational_stays : (t : Bool) → Outside k (pose_update held and volume_update)
          → get_or (put_flag (put_corotational (c.update (corotational_of b) held) b) at.row_strained t) k 0 ≡ get_or b k 0
      unfolding put_corotational c.update corotational_of pose_of posed
      corotational_stays t o =
          let x = outside_split k (pose_update held) volume_update o in
          let r : CorotationalRow = c.update (corotational_of b) held in
          flag_beside k (put_corotational r b) at.row_strained t (strained_out x.0)
          ∙ volume_stays r.volume (put_pose r.pose b) x.1
          ∙ pose_puts r.pose refl x.0

      renewed_stays : (s : Stiffness) (invA : List Float) (d : List ℕ) → Outside k (floats at.neo_stiffness_strain 6 and floats at.neo_m 36 and floats at.elastic_inv_a 36)
          → get_or (put_renewed s invA d) k 0 ≡ get_or d k 0
      unfolding put_renewed
      renewed_stays s invA d o =
          let b1 : List ℕ = put_floats 6 d at.neo_stiffness_strain s.stiffness_strain in
          let b2 : List ℕ = put_floats 36 b1 at.neo_m s.m in
          floats_beside k 36 b2 at.elastic_inv_a invA o.1.1.0
          ∙ floats_beside k 36 b1 at.neo_m s.m o.1.0
          ∙ floats_beside k 6 d at.neo_stiffness_strain s.stiffness_strain o.0

      block_stays : (r : NeoHookeanRow) (d : List ℕ) (fresh : Bool)
          → Outside k (when (not fresh) (floats at.neo_stiffness_strain 6 and floats at.neo_m 36 and floats at.elastic_inv_a 36))
          → get_or (cond fresh d (put_renewed r.stiffness r.compliance.inv_a d)) k 0 ≡ get_or d k 0
      block_stays r d true o = refl
      block_stays r d false o = renewed_stays r.stiffness r.compliance.inv_a d o

      neo_stays : (t : Bool) → Outside k (pose_update held and block_update (is_still_fresh held b))
          → get_or (put_flag (put_neo_hookean (n.update (neo_hookean_of b) held) b) at.row_strained t) k 0 ≡ get_or b k 0
      unfolding put_neo_hookean n.update neo_hookean_of block_update is_still_fresh update_pose posed pose_of
      neo_stays t o =
          let x = outside_split k (pose_update held) _ o in
          let r : NeoHookeanRow = n.update (neo_hookean_of b) held in
          let b1 : List ℕ = put_pose r.pose b in
          flag_beside k (put_neo_hookean r b) at.row_strained t (strained_out x.0)
          ∙ floats_beside k 6 (put_block r b b1) at.neo_dt_grad r.stiffness.dt_grad x.1.0
          ∙ block_stays r b1 (is_still_fresh held b) x.1.1
          ∙ pose_puts r.pose refl x.0

-- ---- a good row of any kind

module _ (c : ℕ) (b : List ℕ) (y : Bytes b) (g : Good Row c b) (least : Float) (held : Holds) (k : ℕ) where
  update_by : (t u : Bool) → eqb (le16 b 4) 3 ≡ t
      → Outside k (cond t (scalar_update held (le16 b at.scalar_type)) (cond u (pose_update held and volume_update) (pose_update held and block_update (is_still_fresh held b))))
      → (x : Bool) → get_or (put_flag (put_constraint (update_of (by_kind b t u) held) b) at.row_strained x) k 0 ≡ get_or b k 0
  unfolding put_constraint update_of
  update_by true u e o x = scalar_stays k b y held (good_pos c b g) (good_grad c b g (eqb-true (le16 b 4) 3 e)) x o
  update_by false true e o x = corotational_stays k b y held (good_pos c b g) x o
  update_by false false e o x = neo_stays k b y held (good_pos c b g) x o

  -- AN UPDATE LEAVES EVERY BYTE THAT IT DOES NOT ASSIGN
  pub update_leaves : Outside k (assigned_in_update held b) → get_or (update_row least held b) k 0 ≡ get_or b k 0
  unfolding assigned_in_update update_row constraint_of
  update_leaves o = update_by (eqb (le16 b 4) 3) (eqb (le16 b 4) 4) refl o (strained_of (update_of (constraint_of b) held) least)
