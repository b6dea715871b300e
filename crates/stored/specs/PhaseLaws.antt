-- The steps of the sweeps and the phases of one row on its record agree: what a step makes of the row is the phase's record, and what the points lose is the phase's loss at the places that the row names. Assumes nothing.
use Rattle.std.specs.Prelude.{ℕ, ◌≡◌, Bool, true, false, cond, List, eqb, Float}
use Rattle.std.proofs.Math.Path.{refl}
use Rattle.std.proofs.Common.{◌∙◌, inl, inr, arith}
use Rattle.little_endian.specs.Bytes.{le16}
use Rattle.relisting.specs.Steps.{fetch, alters}
use Rattle.places.specs.Places.{Holds, Ids}
use Rattle.records.specs.Layout as at
use Rattle.rows.specs.Row.{key_of, places, counted_places, holds_of, losses_of, four}
use Rattle.rows.specs.Step as step
use Rattle.floats.specs.Fields.{ids_at}
use Rattle.stored.specs.Read.{row_of, constraint_of}
use Rattle.stored.specs.Put.{put_constraint, put_update, put_warm, put_solve}
use Rattle.stored.specs.Phases.{counted_ids, names_at, is_strained_at, update_row, warm_row, warm_loss, solve_row, solve_loss}
use Rattle.stored.specs.Points.{position, velocity, lose, Points, update, warm, solve}
use Rattle.stored.specs.Kept.{Kept, names_by, le16_kept, id_kept, flag_kept}
use Rattle.stored.specs.Local.{constraint_kept, warm_kept}

-- the places that a record names
abbrev pub names_on : List ℕ → List ℕ
names_on b = (key_of (row_of b)).names

pub names_are : (b : List ℕ) → names_on b ≡ places (names_at b)
unfolding key_of row_of constraint_of names_at counted_ids
names_are b = names_by b (eqb (le16 b 4) 3) (eqb (le16 b 4) 4) ∙ go (eqb (le16 b 4) 3) (le16 b 12) (ids_at b 14)
  where
    go : (t : Bool) (n : ℕ) (i : Ids) → cond t (counted_places n i) (places i) ≡ places (cond t (counted_ids n i) i)
    go true n i = refl
    go false n i = refl

-- an update and a warm start leave the names

names_kept : (b c : List ℕ) → Kept b c → names_at b ≡ names_at c
unfolding names_at counted_ids ids_at
names_kept b c h =
    rw (
      le16_kept b c h 4 (inl (omega arith)) (inl (omega arith)),
      le16_kept b c h 12 (inr (inl (omega arith, omega arith))) (inr (inl (omega arith, omega arith))),
      id_kept b c h 14 (omega arith) (omega arith),
      id_kept b c h 18 (omega arith) (omega arith),
      id_kept b c h 22 (omega arith) (omega arith),
      id_kept b c h 26 (omega arith) (omega arith),
    ) refl

pub update_names : (least : Float) (held : Holds) (b : List ℕ) → names_at (update_row least held b) ≡ names_at b
unfolding update_row
update_names least held b =
    let u = step.update_of (constraint_of b) held in
    names_kept (update_row least held b) b
    (λ k p. flag_kept (put_constraint u b) at.row_strained (step.strained_of u least) (inl (omega arith, omega arith)) k p ∙ constraint_kept u b k p)

pub warm_names : (coeff : Float) (b : List ℕ) → names_at (warm_row coeff b) ≡ names_at b
unfolding warm_row
warm_names coeff b = names_kept (warm_row coeff b) b (warm_kept (step.warmstart_of (constraint_of b) coeff).state b)

pub strained_is : (b : List ℕ) → (row_of b).strained ≡ is_strained_at b
unfolding row_of is_strained_at
strained_is b = refl

-- what these places hold
abbrev pub positions_on : List ℕ → Points → Holds
positions_on b ps = holds_of position (names_on b) (fetch (names_on b) ps)

abbrev pub velocities_on : List ℕ → Points → Holds
velocities_on b ps = holds_of velocity (names_on b) (fetch (names_on b) ps)

module _ (N : ℕ) (b : List ℕ) (ps : Points) where
  pub update_is : (least : Float) → (update N least b ps).0 ≡ update_row least (positions_on b ps) b
  unfolding step.update put_update update_row row_of
  update_is least = refl

  pub update_leaves : (least : Float) → (update N least b ps).1 ≡ ps
  unfolding step.update
  update_leaves least = refl

  pub warm_is : (coeff : Float) → (warm N coeff b ps).0 ≡ warm_row coeff b
  unfolding step.warm put_warm warm_row row_of
  warm_is coeff = refl

  pub warm_loses : (coeff : Float) → (warm N coeff b ps).1 ≡ alters lose (losses_of N (names_on b) (four (warm_loss coeff b))) ps
  unfolding step.warm warm_loss row_of
  warm_loses coeff = refl

  pub solve_is : (solve N b ps).0 ≡ solve_row (velocities_on b ps) b
  unfolding step.solve put_solve solve_row row_of
  solve_is = refl

  pub solve_loses : (solve N b ps).1 ≡ alters lose (losses_of N (names_on b) (four (solve_loss (velocities_on b ps) b))) ps
  unfolding step.solve solve_loss row_of
  solve_loses = refl
