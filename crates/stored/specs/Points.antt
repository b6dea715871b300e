-- Points as the bytes of their records, and the steps of the two sweeps over rows and points that are bytes. Definitions only. Assumes nothing.
use Rattle.std.specs.Prelude.{ℕ, Bool, true, false, List, Float}
use Rattle.std.proofs.Math.Option.{Option}
use Rattle.relisting.specs.Steps.{◌then◌, choose, nothing, storing}
use Rattle.vector.specs.Vector.{sub}
use Rattle.vector.specs.declared.Vec3.{Vec3}
use Rattle.records.specs.Layout as at
use Rattle.rows.specs.Row.{Row}
use Rattle.rows.specs.Step as step
use Rattle.floats.specs.Fields.{vec3_at, put_vec3}
use Rattle.stored.specs.Read.{row_of}
use Rattle.stored.specs.Put.{put_update, put_warm, put_solve}

unfoldable pub position : List ℕ → Vec3
position p = vec3_at p at.point_position

unfoldable pub velocity : List ℕ → Vec3
velocity p = vec3_at p at.point_velocity

-- the velocity less x
unfoldable pub lose : Vec3 → List ℕ → List ℕ
lose x p = put_vec3 p at.point_velocity (sub (velocity p) x)

-- ---- one row's record among N points: read the row, step, put back what was assigned

abbrev pub Points : Type 0
Points = List (List ℕ)

abbrev pub only : Bool → (List ℕ → Points → List ℕ × Points) → List ℕ → Points → List ℕ × Points
only true f = f
only false f = nothing

module _ (N : ℕ) where
  abbrev pub by : (Row → List ℕ → List ℕ) → (Row → List (Option (List ℕ)) → Row × List (ℕ × Vec3)) → List ℕ → Points → List ℕ × Points
  by put g = storing row_of put (step.by position velocity lose N g)

  abbrev pub update : Float → List ℕ → Points → List ℕ × Points
  update least = by put_update (step.update position velocity lose N least)

  abbrev pub warm : Float → List ℕ → Points → List ℕ × Points
  warm coeff = by put_warm (step.warm position velocity lose N coeff)

  abbrev pub solve : List ℕ → Points → List ℕ × Points
  solve = by put_solve (step.solve position velocity lose N)

  -- the main sweep's step: an update where mode bit 0 is set, a warm start where bit 1 is, and the solve
  abbrev pub main_step : Bool → Bool → Float → Float → List ℕ → Points → List ℕ × Points
  main_step u w coeff least = only u (update least) then only w (warm coeff) then solve

  -- a resweep's: the solve, where the row is strained
  abbrev pub resweep_step : List ℕ → Points → List ℕ × Points
  resweep_step = choose (λ b. (row_of b).strained) solve nothing
