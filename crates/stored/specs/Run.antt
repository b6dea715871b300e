-- THE RUN of a whole frame: its rows and points swept, and laid behind its head again; what it returns (`answers`) and what it leaves (`leaves`). Definitions only. Assumes nothing.
use Rattle.std.specs.Prelude.{ℕ, Bool, cond, ◌||◌, List, ◌++◌, eqb, Float}
use Rattle.little_endian.specs.Bytes.{f32_at}
use Rattle.records.specs.Layout as at
use Rattle.records.specs.declared.Answer.{Answer}
use Rattle.records.specs.Records.{flatten}
use Rattle.frame.specs.Frames.{count_n, mode_of, resweeps_of, head, points, rows}
use Rattle.frame.specs.Check.{check_of}
use Rattle.relisting.specs.Steps.{run}
use Rattle.stored.specs.Points.{Points, main_step, resweep_step}

-- mode bit 0: update; bit 1: warm start. The mode of an accepted frame is 0 to 3
abbrev pub updates : ℕ → Bool
updates mode = eqb mode 1 || eqb mode 3

abbrev pub warms : ℕ → Bool
warms mode = eqb mode 2 || eqb mode 3

abbrev pub warm_coefficient : List ℕ → Float
warm_coefficient s = f32_at s at.head_warm

abbrev pub least_strain : List ℕ → Float
least_strain s = f32_at s at.head_least

-- a head, rows and points, one behind the other as a frame has them
unfoldable pub lay : List ℕ → List (List ℕ) × Points → List ℕ
lay h x = h ++ (flatten x.1 ++ flatten x.0)

-- the main sweep over the rows in listed order, and then the resweeps
unfoldable pub swept : List ℕ → List (List ℕ) × Points
swept s =
    run (main_step (count_n s) (updates (mode_of s)) (warms (mode_of s)) (warm_coefficient s) (least_strain s)) (resweep_step (count_n s)) (resweeps_of s) (rows s) (points s)

-- the bytes of an accepted frame after the run
unfoldable pub run_of : List ℕ → List ℕ
run_of s = lay (head s) (swept s)

-- WHAT RUN RETURNS, whatever the frame: check's number and place
abbrev pub answers : List ℕ → Answer
answers s = check_of s

-- WHAT RUN LEAVES, whatever the frame: where check accepts it, the frame after the run; where check refuses it, the frame as it was
unfoldable pub leaves : List ℕ → List ℕ
leaves s = cond (eqb (check_of s).number 0) (run_of s) s
