-- A step leaves every record as long as it was, with the same length field and kind: what a run leaves is parted as the frame before it was. Assumes nothing.
use Rattle.std.specs.Prelude.{ℕ, zero, suc, ◌<◌, ◌≡◌, Bool, true, false, cond, List, [], ◌∷◌, Float, length, get_or, replicate}
use Rattle.std.proofs.Math.Path.{refl}
use Rattle.std.proofs.Common.{sym, ap, ◌∙◌, inl, arith}
use Rattle.std.proofs.Math.Option.{Option}
use Rattle.little_endian.specs.Bytes.{le16, le32, f32_bytes, bytes2}
use Rattle.little_endian.proofs.Patch.{length-patch, sets_below}
use Rattle.relisting.specs.Steps.{fetch, alter, alters, ◌then◌, pick, choose, nothing, sweep, sweeps, run}
use Rattle.vector.specs.declared.Vec3.{Vec3}
use Rattle.places.specs.Places.{Holds}
use Rattle.neo_hookean.specs.NeoHookean.{is_fresh}
use Rattle.scalar.specs.declared.Response.{Response}
use Rattle.scalar.specs.declared.SoftScalarConstraint.{SoftScalarConstraint}
use Rattle.cell.specs.declared.Pose.{Pose}
use Rattle.cell.specs.declared.Impulses.{Impulses}
use Rattle.corotational.specs.declared.Volume.{Volume}
use Rattle.neo_hookean.specs.declared.Stiffness.{Stiffness}
use Rattle.neo_hookean.specs.declared.NeoHookeanRow.{NeoHookeanRow}
use Rattle.records.specs.Layout as at
use Rattle.rows.specs.Row.{Row, key_of, Constraint, scalar, corotational, neo_hookean}
use Rattle.floats.specs.Fields.{floats_at, put_f32, put_vec3, put_four, put_floats}
use Rattle.floats.proofs.Lengths.{length-put_f32, length-put_vec3, length-put_four, length-put_mat3, length-put_quat, length-put_floats}
use Rattle.rows.specs.Step as step
use Rattle.rows.specs.Step.{update_of, strained_of}
use Rattle.stored.specs.Read.{row_of, constraint_of}
use Rattle.stored.specs.Put.{put_flag, put_response, put_scalar, put_pose, put_volume, put_corotational, put_renewed, put_block}
use Rattle.stored.specs.Put.{put_neo_hookean, put_constraint, put_update, put_impulses, warm_constraint, put_warm, solve_constraint}
use Rattle.stored.specs.Put.{put_solve}
use Rattle.stored.specs.Phases.{update_row, warm_row, solve_row}
use Rattle.stored.specs.Points.{position, velocity, lose, Points, only, by, update, warm, solve, main_step, resweep_step}
use Rattle.stored.specs.Kept.{Kept, flag_kept}
use Rattle.stored.specs.Local.{constraint_kept, warm_kept, solve_kept}

-- ---- two records as long as one another, of one kind

pub record Alike (b c : List ℕ) : Type 0 where
  pub size : length b ≡ length c
  pub start : (k : ℕ) → k < 6 → get_or b k 0 ≡ get_or c k 0

pub alike_refl : (b : List ℕ) → Alike b b
alike_refl b = record { size = refl; start = λ k h. refl }

pub alike_trans : {b c d : List ℕ} → Alike b c → Alike c d → Alike b d
alike_trans x y = record { size = x.size ∙ y.size; start = λ k h. x.start k h ∙ y.start k h }

pub alike_sym : {b c : List ℕ} → Alike b c → Alike c b
alike_sym x = record { size = sym x.size; start = λ k h. sym (x.start k h) }

module _ (b c : List ℕ) (h : Alike b c) where
  -- the length field, and the kind
  pub alike_length : le32 b 0 ≡ le32 c 0
  unfolding le32
  alike_length = rw (h.start 0 (omega arith), h.start 1 (omega arith), h.start 2 (omega arith), h.start 3 (omega arith)) refl

  pub alike_kind : le16 b 4 ≡ le16 c 4
  unfolding le16
  alike_kind = rw (h.start 4 (omega arith), h.start 5 (omega arith)) refl

-- ---- two lists of them

unfoldable pub Same : List (List ℕ) → List (List ℕ) → Type 0
Same [] [] = Unit
Same [] (c ∷ cs) = ⊥
Same (b ∷ bs) [] = ⊥
Same (b ∷ bs) (c ∷ cs) = Alike b c × Same bs cs

pub same_refl : (bs : List (List ℕ)) → Same bs bs
unfolding Same
same_refl [] = tt
same_refl (b ∷ bs) = (alike_refl b, same_refl bs)

pub same_trans : (bs cs ds : List (List ℕ)) → Same bs cs → Same cs ds → Same bs ds
unfolding Same
same_trans [] [] [] x y = tt
same_trans [] [] (d ∷ ds) x y = y
same_trans [] (c ∷ cs) ds x y = absurd x
same_trans (b ∷ bs) [] ds x y = absurd x
same_trans (b ∷ bs) (c ∷ cs) [] x y = y
same_trans (b ∷ bs) (c ∷ cs) (d ∷ ds) x y = (alike_trans x.0 y.0, same_trans bs cs ds x.1 y.1)

pub same_length : (bs cs : List (List ℕ)) → Same bs cs → length bs ≡ length cs
unfolding Same
same_length [] [] x = refl
same_length [] (c ∷ cs) x = absurd x
same_length (b ∷ bs) [] x = absurd x
same_length (b ∷ bs) (c ∷ cs) x = ap suc (same_length bs cs x.1)

pub same_at : (bs cs : List (List ℕ)) → Same bs cs → (n : ℕ) → Alike (get_or bs n []) (get_or cs n [])
unfolding Same
same_at [] [] x n = alike_refl []
same_at [] (c ∷ cs) x n = absurd x
same_at (b ∷ bs) [] x n = absurd x
same_at (b ∷ bs) (c ∷ cs) x zero = x.0
same_at (b ∷ bs) (c ∷ cs) x (suc n) = same_at bs cs x.1 n

-- ---- every put keeps the length

flag_size : (b : List ℕ) (k : ℕ) (t : Bool) → length (put_flag b k t) ≡ length b
flag_size b k t = length-patch b k (bytes2 (cond t 1 0))

response_size : (s : Response) (b : List ℕ) → length (put_response s b) ≡ length b
unfolding put_response
response_size s b =
    let b1 : List ℕ = put_f32 b at.scalar_inv_lhs s.inv_lhs in
    let b2 : List ℕ = put_f32 b1 at.scalar_cfm_gain s.cfm_gain in
    let b3 : List ℕ = put_f32 b2 at.scalar_rhs s.rhs in
    length-put_f32 b3 at.scalar_peak_impulse s.peak_impulse
    ∙ length-put_f32 b2 at.scalar_rhs s.rhs
    ∙ length-put_f32 b1 at.scalar_cfm_gain s.cfm_gain
    ∙ length-put_f32 b at.scalar_inv_lhs s.inv_lhs

scalar_size : (r : SoftScalarConstraint) (b : List ℕ) → length (put_scalar r b) ≡ length b
unfolding put_scalar
scalar_size r b = simp (response_size, length-put_four)

pose_size : (p : Pose) (b : List ℕ) → length (put_pose p b) ≡ length b
unfolding put_pose
pose_size p b = simp (length-put_floats 6, length-put_mat3, length-put_quat, length-put_four) (flag_size b at.elastic_inverted p.inverted)

volume_size : (v : Volume) (b : List ℕ) → length (put_volume v b) ≡ length b
unfolding put_volume
volume_size v b =
    let b1 : List ℕ = put_four b at.coro_grad_vol v.grad_vol in
    let b2 : List ℕ = put_f32 b1 at.coro_cfm_gain_vol v.cfm_gain_vol in
    let b3 : List ℕ = put_f32 b2 at.coro_rhs_vol v.rhs_vol in
    let b4 : List ℕ = put_floats 6 b3 at.coro_b v.b in
    let b5 : List ℕ = put_floats 6 b4 at.coro_z v.z in
    length-put_f32 b5 at.coro_inv_s v.inv_s
    ∙ length-put_floats 6 b4 at.coro_z v.z
    ∙ length-put_floats 6 b3 at.coro_b v.b
    ∙ length-put_f32 b2 at.coro_rhs_vol v.rhs_vol
    ∙ length-put_f32 b1 at.coro_cfm_gain_vol v.cfm_gain_vol
    ∙ length-put_four b at.coro_grad_vol v.grad_vol

renewed_size : (s : Stiffness) (invA : List Float) (b : List ℕ) → length (put_renewed s invA b) ≡ length b
unfolding put_renewed
renewed_size s invA b = simp (length-put_floats 36, length-put_floats 6)

block_size : (r : NeoHookeanRow) (c : List ℕ) (t : Bool) → length (cond t c (put_renewed r.stiffness r.compliance.inv_a c)) ≡ length c
block_size r c true = refl
block_size r c false = renewed_size r.stiffness r.compliance.inv_a c

neo_size : (r : NeoHookeanRow) (b : List ℕ) → length (put_neo_hookean r b) ≡ length b
unfolding put_neo_hookean
neo_size r b =
    let b1 : List ℕ = put_pose r.pose b in
    length-put_floats 6 (put_block r b b1) at.neo_dt_grad r.stiffness.dt_grad
    ∙ block_size r b1 (is_fresh r.pose.strain (floats_at 6 b at.neo_stiffness_strain))
    ∙ pose_size r.pose b

constraint_size : (c : Constraint) (b : List ℕ) → length (put_constraint c b) ≡ length b
unfolding put_constraint put_corotational
constraint_size (scalar r) b = scalar_size r b
constraint_size (corotational r) b = volume_size r.volume (put_pose r.pose b) ∙ pose_size r.pose b
constraint_size (neo_hookean r) b = neo_size r b

impulses_size : (l : Impulses) (b : List ℕ) → length (put_impulses l b) ≡ length b
unfolding put_impulses
impulses_size l b =
    length-put_f32 (put_floats 6 b at.elastic_strain_impulse l.strain) at.elastic_vol_impulse l.vol ∙ length-put_floats 6 b at.elastic_strain_impulse l.strain

warm_size : (c : Constraint) (b : List ℕ) → length (warm_constraint c b) ≡ length b
unfolding warm_constraint
warm_size (scalar c) b = length-put_f32 b at.scalar_impulse c.response.impulse
warm_size (corotational c) b = impulses_size c.impulses b
warm_size (neo_hookean c) b = impulses_size c.impulses b

solve_size : (c : Constraint) (b : List ℕ) → length (solve_constraint c b) ≡ length b
unfolding solve_constraint
solve_size (scalar c) b = length-put_f32 b at.scalar_impulse c.response.impulse
solve_size (corotational c) b = impulses_size c.impulses b
solve_size (neo_hookean c) b = length-put_floats 6 b at.elastic_strain_impulse c.impulses.strain

-- ---- a row's phases, and a point that loses

kept_alike : {b c : List ℕ} → length b ≡ length c → Kept b c → Alike b c
kept_alike e h = record { size = e; start = λ k l. h k (inl (omega arith)) }

updated_alike : (c : Constraint) (t : Bool) (b : List ℕ) → Alike (put_flag (put_constraint c b) at.row_strained t) b
updated_alike c t b = kept_alike
    (flag_size (put_constraint c b) at.row_strained t ∙ constraint_size c b)
    (λ k p. flag_kept (put_constraint c b) at.row_strained t (inl (omega arith, omega arith)) k p ∙ constraint_kept c b k p)

warmed_alike : (c : Constraint) (b : List ℕ) → Alike (warm_constraint c b) b
warmed_alike c b = kept_alike (warm_size c b) (warm_kept c b)

solved_alike : (c : Constraint) (b : List ℕ) → Alike (solve_constraint c b) b
solved_alike c b = kept_alike (solve_size c b) (solve_kept c b)

pub update_row_alike : (least : Float) (held : Holds) (b : List ℕ) → Alike (update_row least held b) b
unfolding update_row
update_row_alike least held b = let k = update_of (constraint_of b) held in updated_alike k (strained_of k least) b

pub warm_row_alike : (coeff : Float) (b : List ℕ) → Alike (warm_row coeff b) b
unfolding warm_row
warm_row_alike coeff b = warmed_alike _ b

pub solve_row_alike : (vel : Holds) (b : List ℕ) → Alike (solve_row vel b) b
unfolding solve_row
solve_row_alike vel b = solved_alike _ b

moved_alike : (v : Vec3) (p : List ℕ) → Alike (put_vec3 p at.point_velocity v) p
unfolding put_vec3
moved_alike v p = record { size = length-put_vec3 p at.point_velocity v; start = λ k h. below k h }
  where
    below : (k : ℕ) → k < 6 → get_or (put_vec3 p at.point_velocity v) k 0 ≡ get_or p k 0
    below k h =
        sets_below (f32_bytes v.z) (put_f32 (put_f32 p 18 v.x) 22 v.y) 26 k (omega arith)
        ∙ sets_below (f32_bytes v.y) (put_f32 p 18 v.x) 22 k (omega arith)
        ∙ sets_below (f32_bytes v.x) p 18 k (omega arith)

pub lose_alike : (x : Vec3) (p : List ℕ) → Alike (lose x p) p
unfolding lose
lose_alike x p = moved_alike _ p

alter_same : (h : List ℕ → List ℕ) → ((p : List ℕ) → Alike (h p) p) → (ps : Points) (i : ℕ) → Same (alter ps i h) ps
unfolding Same
alter_same h a [] i = tt
alter_same h a (p ∷ ps) zero = (a p, same_refl ps)
alter_same h a (p ∷ ps) (suc i) = (alike_refl p, alter_same h a ps i)

pub alters_same : (cs : List (ℕ × Vec3)) (ps : Points) → Same (alters lose cs ps) ps
alters_same [] ps = same_refl ps
alters_same (c ∷ cs) ps =
    same_trans (alters lose (c ∷ cs) ps) (alter ps c.0 (lose c.1)) ps
    (alters_same cs (alter ps c.0 (lose c.1))) (alter_same (lose c.1) (lose_alike c.1) ps c.0)

-- ---- steps

pub record Steady (f : List ℕ → Points → List ℕ × Points) : Type 0 where
  pub row : (b : List ℕ) (ps : Points) → Alike (f b ps).0 b
  pub points : (b : List ℕ) (ps : Points) → Same (f b ps).1 ps

pub nothing_steady : Steady nothing
nothing_steady = record { row = λ b ps. alike_refl b; points = λ b ps. same_refl ps }

pub then_steady : (f g : List ℕ → Points → List ℕ × Points) → Steady f → Steady g → Steady (f then g)
then_steady f g F G = record {
  row = λ b ps. alike_trans (G.row (f b ps).0 (f b ps).1) (F.row b ps);
  points = λ b ps. same_trans _ (f b ps).1 ps (G.points (f b ps).0 (f b ps).1) (F.points b ps);
}

only_steady : (t : Bool) (f : List ℕ → Points → List ℕ × Points) → Steady f → Steady (only t f)
only_steady true f F = F
only_steady false f F = nothing_steady

pub choose_steady : (c : List ℕ → Bool) (f g : List ℕ → Points → List ℕ × Points) → Steady f → Steady g → Steady (choose c f g)
choose_steady c f g F G = record { row = λ b. (one (c b)).row b; points = λ b. (one (c b)).points b }
  where
    one : (t : Bool) → Steady (pick t f g)
    one true = F
    one false = G

module _ (N : ℕ) where
  by_steady : (put : Row → List ℕ → List ℕ) → ((r : Row) (b : List ℕ) → Alike (put r b) b)
      → (g : Row → List (Option (List ℕ)) → Row × List (ℕ × Vec3)) → Steady (by N put g)
  by_steady put a g = record {
    row = λ b ps. a _ b;
    points = λ b ps. alters_same (g (row_of b) (fetch (key_of (row_of b)).names ps)).1 ps;
  }

  pub update_steady : (least : Float) → Steady (update N least)
  unfolding put_update
  update_steady least = by_steady put_update (λ r b. updated_alike r.constraint r.strained b) (step.update position velocity lose N least)

  pub warm_steady : (coeff : Float) → Steady (warm N coeff)
  unfolding put_warm
  warm_steady coeff = by_steady put_warm (λ r b. warmed_alike r.constraint b) (step.warm position velocity lose N coeff)

  pub solve_steady : Steady (solve N)
  unfolding put_solve
  solve_steady = by_steady put_solve (λ r b. solved_alike r.constraint b) (step.solve position velocity lose N)

  pub main_steady : (u w : Bool) (coeff least : Float) → Steady (main_step N u w coeff least)
  main_steady u w coeff least =
      then_steady _ _ (then_steady _ _ (only_steady u _ (update_steady least)) (only_steady w _ (warm_steady coeff))) solve_steady

  pub resweep_steady : Steady (resweep_step N)
  resweep_steady = choose_steady (λ b. (row_of b).strained) _ nothing solve_steady nothing_steady

-- ---- sweeps

pub sweep_rows : (f : List ℕ → Points → List ℕ × Points) → Steady f → (bs : List (List ℕ)) (ps : Points) → Same (sweep f bs ps).0 bs
unfolding Same
sweep_rows f F [] ps = tt
sweep_rows f F (b ∷ bs) ps = (F.row b ps, sweep_rows f F bs (f b ps).1)

pub sweep_points : (f : List ℕ → Points → List ℕ × Points) → Steady f → (bs : List (List ℕ)) (ps : Points) → Same (sweep f bs ps).1 ps
sweep_points f F [] ps = same_refl ps
sweep_points f F (b ∷ bs) ps = same_trans _ (f b ps).1 ps (sweep_points f F bs (f b ps).1) (F.points b ps)

-- k times
again_rows : (g : List ℕ → Points → List ℕ × Points) → Steady g → (k : ℕ) (x : List (List ℕ) × Points) → Same (sweeps (replicate k g) x).0 x.0
again_rows g G zero x = same_refl x.0
again_rows g G (suc k) x = same_trans _ (sweep g x.0 x.1).0 x.0 (again_rows g G k (sweep g x.0 x.1)) (sweep_rows g G x.0 x.1)

again_points : (g : List ℕ → Points → List ℕ × Points) → Steady g → (k : ℕ) (x : List (List ℕ) × Points) → Same (sweeps (replicate k g) x).1 x.1
again_points g G zero x = same_refl x.1
again_points g G (suc k) x = same_trans _ (sweep g x.0 x.1).1 x.1 (again_points g G k (sweep g x.0 x.1)) (sweep_points g G x.0 x.1)

module _ (f g : List ℕ → Points → List ℕ × Points) (F : Steady f) (G : Steady g) (k : ℕ) (bs : List (List ℕ)) (ps : Points) where
  pub run_rows : Same (run f g k bs ps).0 bs
  run_rows = same_trans _ (sweep f bs ps).0 bs (again_rows g G k (sweep f bs ps)) (sweep_rows f F bs ps)

  pub run_points : Same (run f g k bs ps).1 ps
  run_points = same_trans _ (sweep f bs ps).1 ps (again_points g G k (sweep f bs ps)) (sweep_points f F bs ps)
