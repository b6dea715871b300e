-- What the inner functions of a run cite: bytes that are laid out from a head, points and rows, and what a step or a sweep makes of them. A reader of the rules does not need it: the exported contract is stated with stored/specs/Run.antt. Definitions only. Assumes nothing.
use Rattle.std.specs.Prelude.{ℕ, ◌+◌, ◌*◌, ◌≤◌, ◌≡◌, List, [], ◌∷◌, ◌++◌, length, replicate, Float, Bool, false, not, Option, Some, None}
use Rattle.little_endian.specs.Bytes.{le16}
use Rattle.records.specs.Records.{record_length, flatten}
use Rattle.relisting.specs.Steps.{◌then◌, nothing, sweep, sweeps, run}
use Rattle.stored.specs.Points.{Points, update, warm, solve, resweep_step}
use Rattle.stored.specs.Phases.{is_strained_at}
use Rattle.stored.specs.Run.{lay}
use Rattle.floats.specs.Written.{AllWritten}
use Rattle.points.specs.InFrame.{Sized}
use Rattle.row.specs.Widths.{row_length}
use Rattle.sweep.specs.declared.Phases.{Phases}
use Rattle.sweep.specs.declared.Turn.{Turn}
use Rattle.sweep.specs.declared.Turn.TheVariants.{Main, Resweep}

-- a row's record is as long as it says, and has room for the fields of its kind; a scalar row's has no more. Its floats are as put_f32
-- writes them
pub record RowSized (b : List ℕ) : Type 0 where
  pub size : length b ≡ record_length b 0
  pub wide : row_length (le16 b 4) ≤ length b
  pub scalar : le16 b 4 ≡ 3 → length b ≡ 182
  pub written : AllWritten b

unfoldable pub RowsSized : List (List ℕ) → Type 0
RowsSized [] = Unit
RowsSized (b ∷ bs) = RowSized b × RowsSized bs

-- ---- one row

-- the row b, of len bytes, stands at off: before it the head H, n points ps and the rows D, behind it X
pub record At (n off len : ℕ) (H : List ℕ) (ps : Points) (D b X s : List ℕ) : Type 0 where
  pub bytes : s ≡ H ++ (flatten ps ++ (D ++ (b ++ X)))
  pub head : length H ≡ 26
  pub many : length ps ≡ n
  pub sized : Sized ps
  pub place : off ≡ 26 + (30 * n + length D)
  pub long : length b ≡ len
  pub row : RowSized b

-- some row does
pub record Standing (n off len : ℕ) (s : List ℕ) : Type 0 where
  pub few : n ≤ 4096
  pub H : List ℕ
  pub ps : Points
  pub D : List ℕ
  pub b : List ℕ
  pub X : List ℕ
  pub at : At n off len H ps D b X s

-- s' is s after the step f of that row
abbrev pub Stepped : (List ℕ → Points → List ℕ × Points) → ℕ → ℕ → ℕ → List ℕ → List ℕ → Type 0
Stepped f n off len s s' = (H : List ℕ) (ps : Points) (D b X : List ℕ) → At n off len H ps D b X s → At n off len H (f b ps).1 D (f b ps).0 X s'

-- ---- a sweep, and all of them

-- a phase that has its number where it is on
abbrev pub if_some : (Float → List ℕ → Points → List ℕ × Points) → Option Float → List ℕ → Points → List ℕ × Points
if_some f (Some x) = f x
if_some f None = nothing

-- the phases that are on, and the solve
abbrev pub phases : ℕ → Phases → List ℕ → Points → List ℕ × Points
phases n p = if_some (update n) p.update then if_some (warm n) p.warm then solve n

-- what goes before the solve
abbrev pub begin_of : ℕ → Turn → List ℕ → Points → List ℕ × Points
begin_of n (Main p) = if_some (update n) p.update then if_some (warm n) p.warm
begin_of n Resweep = nothing

-- whether a row is passed over
abbrev pub is_passed : Turn → List ℕ → Bool
is_passed (Main p) b = false
is_passed Resweep b = not (is_strained_at b)

-- what a sweep does with a row
abbrev pub step_of : ℕ → Turn → List ℕ → Points → List ℕ × Points
step_of n (Main p) = phases n p
step_of n Resweep = resweep_step n

-- the frame s is a head h, and the rows and points x
pub record Laid (s h : List ℕ) (x : List (List ℕ) × Points) : Type 0 where
  pub bytes : s ≡ lay h x
  pub head : length h ≡ 26
  pub rows : RowsSized x.0
  pub points : Sized x.1

-- n points and r rows
pub record Ready (n r : ℕ) (s : List ℕ) : Type 0 where
  pub h : List ℕ
  pub x : List (List ℕ) × Points
  pub laid : Laid s h x
  pub size : length x.1 ≡ n
  pub count : length x.0 ≡ r
  pub few : n ≤ 4096
  pub few_r : r ≤ 4096

abbrev pub Made : (List (List ℕ) × Points → List (List ℕ) × Points) → ℕ → ℕ → List ℕ → List ℕ → Type 0
Made f n r s s' = (h : List ℕ) (x : List (List ℕ) × Points) → Laid s h x → length x.1 ≡ n → length x.0 ≡ r → Laid s' h (f x)

abbrev pub Swept : Turn → ℕ → ℕ → List ℕ → List ℕ → Type 0
Swept t n r = Made (λ x. sweep (step_of n t) x.0 x.1) n r

abbrev pub Reswept : ℕ → ℕ → ℕ → List ℕ → List ℕ → Type 0
Reswept k n r = Made (sweeps (replicate k (resweep_step n))) n r

abbrev pub Ran : Phases → ℕ → ℕ → ℕ → List ℕ → List ℕ → Type 0
Ran p k n r = Made (λ x. run (phases n p) (resweep_step n) k x.0 x.1) n r
