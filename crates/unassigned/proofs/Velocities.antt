-- A run leaves every byte of a point but those of its velocity. Assumes nothing.
use Rattle.std.proofs.Common.{ℕ, zero, suc, ◌≡◌, refl, ap, ◌∙◌, Bool, true, false, List, [], ◌∷◌, get_or, replicate, Float}
use Rattle.relisting.specs.Steps.{alter, alters, pick, nothing, sweep, sweeps}
use Rattle.vector.specs.Vector.{sub}
use Rattle.vector.specs.declared.Vec3.{Vec3}
use Rattle.records.specs.Layout as at
use Rattle.frame.specs.Frames.{count_n, mode_of, resweeps_of, points, rows}
use Rattle.acceptance.specs.Whole.{row}
use Rattle.stored.specs.Read.{row_of}
use Rattle.rows.specs.Row.{losses_of, four}
use Rattle.stored.specs.Phases.{warm_loss, solve_loss}
use Rattle.stored.specs.Points.{velocity, lose, Points, only, update, warm, solve, main_step, resweep_step}
use Rattle.stored.specs.PhaseLaws.{names_on, velocities_on, update_leaves, warm_loses, solve_loses}
use Rattle.stored.specs.Run.{updates, warms, warm_coefficient, least_strain, swept}
use Rattle.demand.proofs.Laid.{ran}
use Rattle.unassigned.specs.Assigned.{floats, Outside}
use Rattle.unassigned.specs.Stays.{PointsKeepTheirBytes}
use Rattle.unassigned.proofs.Beside.{vec3_beside}

module _ (k : ℕ) (o : Outside k (floats at.point_velocity 3)) where
  -- each point of qs has byte k of its partner in ps
  abbrev Stay : Points → Points → Type 0
  Stay qs ps = (n : ℕ) → get_or (row qs n) k 0 ≡ get_or (row ps n) k 0

  lose_stays : (x : Vec3) (p : List ℕ) → get_or (lose x p) k 0 ≡ get_or p k 0
  unfolding lose
  lose_stays x p = vec3_beside k p at.point_velocity (sub (velocity p) x) o.0

  alter_stays : (ps : Points) (i : ℕ) (x : Vec3) → Stay (alter ps i (lose x)) ps
  alter_stays [] i x n = refl
  alter_stays (p ∷ ps) zero x zero = lose_stays x p
  alter_stays (p ∷ ps) zero x (suc n) = refl
  alter_stays (p ∷ ps) (suc i) x zero = refl
  alter_stays (p ∷ ps) (suc i) x (suc n) = alter_stays ps i x n

  alters_stay : (cs : List (ℕ × Vec3)) (ps : Points) → Stay (alters lose cs ps) ps
  alters_stay [] ps n = refl
  alters_stay (c ∷ cs) ps n = alters_stay cs (alter ps c.0 (lose c.1)) n ∙ alter_stays ps c.0 c.1 n

  -- ---- steps

  abbrev Steps : (List ℕ → Points → List ℕ × Points) → Type 0
  Steps f = (b : List ℕ) (ps : Points) → Stay (f b ps).1 ps

  module _ (N : ℕ) where
    updates_stay : (u : Bool) (least : Float) → Steps (only u (update N least))
    updates_stay true least b ps n = ap (λ (qs : Points). get_or (row qs n) k 0) (update_leaves N b ps least)
    updates_stay false least b ps n = refl

    warms_stay : (w : Bool) (coeff : Float) → Steps (only w (warm N coeff))
    warms_stay true coeff b ps n = ap (λ (qs : Points). get_or (row qs n) k 0) (warm_loses N b ps coeff) ∙ alters_stay (losses_of N (names_on b) (four (warm_loss coeff b))) ps n
    warms_stay false coeff b ps n = refl

    solves_stay : Steps (solve N)
    solves_stay b ps n = ap (λ (qs : Points). get_or (row qs n) k 0) (solve_loses N b ps) ∙ alters_stay (losses_of N (names_on b) (four (solve_loss (velocities_on b ps) b))) ps n

    main_stays : (u w : Bool) (coeff least : Float) → Steps (main_step N u w coeff least)
    main_stays u w coeff least b ps n =
        let x = only u (update N least) b ps in
        let z = only w (warm N coeff) x.0 x.1 in
        solves_stay z.0 z.1 n ∙ warms_stay w coeff x.0 x.1 n ∙ updates_stay u least b ps n

    resweep_stays : Steps (resweep_step N)
    resweep_stays b ps = one (row_of b).strained
      where
        one : (t : Bool) → Stay (pick t (solve N) nothing b ps).1 ps
        one true = solves_stay b ps
        one false = λ n. refl

  -- ---- sweeps

  sweep_stays : (f : List ℕ → Points → List ℕ × Points) → Steps f → (bs : List (List ℕ)) (ps : Points) → Stay (sweep f bs ps).1 ps
  sweep_stays f F [] ps n = refl
  sweep_stays f F (b ∷ bs) ps n = sweep_stays f F bs (f b ps).1 n ∙ F b ps n

  again_stays : (g : List ℕ → Points → List ℕ × Points) → Steps g → (j : ℕ) (x : List (List ℕ) × Points) → Stay (sweeps (replicate j g) x).1 x.1
  again_stays g G zero x n = refl
  again_stays g G (suc j) x n = again_stays g G j (sweep g x.0 x.1) n ∙ sweep_stays g G x.0 x.1 n

  pub swept_stays : (s : List ℕ) → Stay (swept s).1 (points s)
  unfolding swept
  swept_stays s n =
      let main = main_step (count_n s) (updates (mode_of s)) (warms (mode_of s)) (warm_coefficient s) (least_strain s) in
      again_stays (resweep_step (count_n s)) (resweep_stays (count_n s)) (resweeps_of s) (sweep main (rows s) (points s)) n
      ∙ sweep_stays main (main_stays (count_n s) (updates (mode_of s)) (warms (mode_of s)) (warm_coefficient s) (least_strain s)) (rows s) (points s) n

-- THE POINTS KEEP EVERY BYTE BUT THOSE OF THEIR VELOCITIES
pub points_keep_their_bytes : PointsKeepTheirBytes
points_keep_their_bytes s ok n k o = ap (λ (qs : Points). get_or (row qs n) k 0) (ran s ok).its_points ∙ swept_stays k o s n
