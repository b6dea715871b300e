-- "FIELDS THAT THE RUST DOES NOT ASSIGN KEEP THEIR BYTES" and "id 0xFFFFFFFF is skipped, and the row's old `pos` stays", as statements about a whole run. Definitions only. Assumes nothing.
use Rattle.std.specs.Prelude.{ℕ, ◌+◌, ◌*◌, ◌<◌, ◌≡◌, Bool, List, length, get_or}
use Rattle.little_endian.proofs.Parts.{Bytes}
use Rattle.relisting.specs.Sweep.{before}
use Rattle.records.specs.Layout as at
use Rattle.records.specs.Answers.{accepted}
use Rattle.rows.specs.Row.{nobody, places}
use Rattle.frame.specs.Frames.{count_n, mode_of, points, rows}
use Rattle.frame.specs.Check.{check_of}
use Rattle.acceptance.specs.Whole.{row}
use Rattle.stored.specs.Phases.{names_at}
use Rattle.stored.specs.Points.{Points, main_step}
use Rattle.stored.specs.PhaseLaws.{positions_on}
use Rattle.stored.specs.Run.{updates, warms, warm_coefficient, least_strain, leaves}
use Rattle.unassigned.specs.Assigned.{Field, floats, when, ◌and◌, Outside, assigned_in_update, assigned_in_warm, assigned_in_solve}

-- the main sweep's step of a row b that meets the points ps: an update where u, a warm start where w, and the solve
unfoldable pub assigned_in_main : Bool → Bool → List ℕ → Points → List Field
assigned_in_main u w b ps = when u (assigned_in_update (positions_on b ps) b) and when w (assigned_in_warm b) and assigned_in_solve b

-- the points as row n of a frame meets them in the main sweep
unfoldable pub met : List ℕ → ℕ → Points
met s n = before (main_step (count_n s) (updates (mode_of s)) (warms (mode_of s)) (warm_coefficient s) (least_strain s)) (row (rows s)) (points s) n

-- row n of a frame: a row is updated and warm started once at most, in the main sweep, and a resweep assigns what the solve did
unfoldable pub assigned_in_run : List ℕ → ℕ → List Field
assigned_in_run s n = assigned_in_main (updates (mode_of s)) (warms (mode_of s)) (row (rows s) n) (met s n)

-- FIELDS THAT THE RUST DOES NOT ASSIGN KEEP THEIR BYTES, in each row of every accepted frame
abbrev pub KeepTheirBytes : Type 0
KeepTheirBytes =
    (s : List ℕ) → Bytes s → check_of s ≡ accepted → (n : ℕ) → n < length (rows s)
    → (k : ℕ) → Outside k (assigned_in_run s n) → get_or (row (rows (leaves s)) n) k 0 ≡ get_or (row (rows s) n) k 0

-- and in each point: its velocity alone is ever assigned
abbrev pub PointsKeepTheirBytes : Type 0
PointsKeepTheirBytes =
    (s : List ℕ) → check_of s ≡ accepted → (n k : ℕ) → Outside k (floats at.point_velocity 3) → get_or (row (points (leaves s)) n) k 0 ≡ get_or (row (points s) n) k 0

-- ID 0xFFFFFFFF IS SKIPPED, AND THE ROW'S OLD `pos` STAYS: the 12 bytes of each place p that names nobody (a scalar row names its first `count` ids only)
abbrev pub OldPosStays : Type 0
OldPosStays =
    (s : List ℕ) → Bytes s → check_of s ≡ accepted → (n : ℕ) → n < length (rows s)
    → (p : ℕ) → p < 4 → get_or (places (names_at (row (rows s) n))) p 0 ≡ nobody
    → (j : ℕ) → j < 12 → get_or (row (rows (leaves s)) n) (at.row_pos + 12 * p + j) 0 ≡ get_or (row (rows s) n) (at.row_pos + 12 * p + j) 0
