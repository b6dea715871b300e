-- A warm start and a solve leave every byte that they do not assign. Assumes nothing.
use Rattle.std.proofs.Common.{ℕ, ◌≡◌, ◌∙◌, Bool, true, false, cond, List, eqb, get_or, Float}
use Rattle.little_endian.specs.Bytes.{le16}
use Rattle.places.specs.Places.{Holds}
use Rattle.cell.specs.declared.Impulses.{Impulses}
use Rattle.records.specs.Layout as at
use Rattle.rows.specs.Row.{Constraint, scalar, corotational, neo_hookean}
use Rattle.rows.specs.Step.{warmstart_of, solve_of}
use Rattle.floats.specs.Fields.{put_floats}
use Rattle.stored.specs.Read.{scalar_of, corotational_of, neo_hookean_of, constraint_of}
use Rattle.stored.specs.Put.{put_impulses, warm_constraint, solve_constraint}
use Rattle.stored.specs.Phases.{warm_row, solve_row}
use Rattle.unassigned.specs.Assigned.{floats, ◌and◌, Outside, assigned_in_warm, assigned_in_solve}
use Rattle.unassigned.proofs.Beside.{f32_beside, floats_beside}

-- the constraint, by the two tests of its kind
abbrev pub by_kind : List ℕ → Bool → Bool → Constraint
by_kind b t u = cond t (scalar (scalar_of b)) (cond u (corotational (corotational_of b)) (neo_hookean (neo_hookean_of b)))

module _ (k : ℕ) (b : List ℕ) where
  impulses_stay : (l : Impulses) → Outside k (floats at.elastic_strain_impulse 6 and floats at.elastic_vol_impulse 1) → get_or (put_impulses l b) k 0 ≡ get_or b k 0
  unfolding put_impulses
  impulses_stay l o =
      f32_beside k (put_floats 6 b at.elastic_strain_impulse l.strain) at.elastic_vol_impulse l.vol o.1.0
      ∙ floats_beside k 6 b at.elastic_strain_impulse l.strain o.0

  module _ (coeff : Float) where
    warm_by : (t u : Bool)
        → Outside k (cond t (floats at.scalar_impulse 1) (cond u (floats at.elastic_strain_impulse 6 and floats at.elastic_vol_impulse 1) (floats at.elastic_strain_impulse 6 and floats at.elastic_vol_impulse 1)))
        → get_or (warm_constraint (warmstart_of (by_kind b t u) coeff).state b) k 0 ≡ get_or b k 0
    unfolding warm_constraint warmstart_of
    warm_by true u o = f32_beside k b at.scalar_impulse _ o.0
    warm_by false true o = impulses_stay _ o
    warm_by false false o = impulses_stay _ o

    -- A WARM START LEAVES EVERY BYTE THAT IT DOES NOT ASSIGN
    pub warm_leaves : Outside k (assigned_in_warm b) → get_or (warm_row coeff b) k 0 ≡ get_or b k 0
    unfolding assigned_in_warm warm_row constraint_of
    warm_leaves o = warm_by (eqb (le16 b 4) 3) (eqb (le16 b 4) 4) o

  module _ (vel : Holds) where
    solve_by : (t u : Bool)
        → Outside k (cond t (floats at.scalar_impulse 1) (cond u (floats at.elastic_strain_impulse 6 and floats at.elastic_vol_impulse 1) (floats at.elastic_strain_impulse 6)))
        → get_or (solve_constraint (solve_of (by_kind b t u) vel).state b) k 0 ≡ get_or b k 0
    unfolding solve_constraint solve_of
    solve_by true u o = f32_beside k b at.scalar_impulse _ o.0
    solve_by false true o = impulses_stay _ o
    solve_by false false o = floats_beside k 6 b at.elastic_strain_impulse _ o.0

    -- A SOLVE LEAVES EVERY BYTE THAT IT DOES NOT ASSIGN
    pub solve_leaves : Outside k (assigned_in_solve b) → get_or (solve_row vel b) k 0 ≡ get_or b k 0
    unfolding assigned_in_solve solve_row constraint_of
    solve_leaves o = solve_by (eqb (le16 b 4) 3) (eqb (le16 b 4) 4) o
