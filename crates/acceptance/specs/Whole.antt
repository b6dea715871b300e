-- What an accepted frame is: its head, points and rows, one after another, each of them good. Definitions only. Assumes nothing.
use Rattle.std.specs.Prelude.{ℕ, ◌+◌, ◌*◌, ◌≤◌, ◌<◌, ◌≡◌, true, false, List, [], ◌∷◌, ◌++◌, length, get_or}
use Rattle.little_endian.specs.Bytes.{le16, le32}
use Rattle.records.specs.declared.Due.{Due}
use Rattle.records.specs.declared.Due.TheVariants.{Head, Point, Row}
use Rattle.records.specs.Layout.{kind_at, row_colour, head_end, point_end}
use Rattle.records.specs.Answers.{Passed}
use Rattle.records.specs.Fields.{fields}
use Rattle.records.specs.Records.{is_due, record_length, flatten}
use Rattle.clash.specs.Clash.{Key, key_of, clashes}
use Rattle.frame.specs.Frames.{count_n, count_r, mode_of, resweeps_of, rows_at, rows_end, head, points, rows}

-- row n of a listing, numbered from 0, and its colour
abbrev pub row : List (List ℕ) → ℕ → List ℕ
row bs n = get_or bs n []

abbrev pub colour_of : List (List ℕ) → ℕ → ℕ
colour_of bs n = le16 (row bs n) row_colour

-- a record's bytes: as long as they say, of a kind and length that are due, with fields that pass every test after a row of colour c
-- (the tests of a head or a point do not look at c)
pub record Good (w : Due) (c : ℕ) (b : List ℕ) : Type 0 where
  pub size : length b ≡ record_length b 0
  pub due : is_due w (le16 b kind_at) (le32 b 0) ≡ true
  pub passed : Passed (fields b c)

-- records that are good each after the one before it
unfoldable pub Chain : Due → ℕ → List (List ℕ) → Type 0
Chain w c [] = Unit
Chain w c (b ∷ bs) = Good w c b × Chain w (le16 b row_colour) bs

-- no row clashes with one before it
unfoldable pub Free : ℕ → List Key → List (List ℕ) → Type 0
Free N before [] = Unit
Free N before (b ∷ bs) = (clashes N before (key_of b) ≡ false) × Free N (key_of b ∷ before) bs

-- THE PARTS OF AN ACCEPTED FRAME
pub record Whole (s : List ℕ) : Type 0 where
  pub bytes : s ≡ head s ++ (flatten (points s) ++ flatten (rows s))
  pub good_head : Good Head 0 (head s)
  pub good_points : Chain Point 0 (points s)
  pub good_rows : Chain Row 0 (rows s)
  pub free : Free (count_n s) [] (rows s)

-- and its numbers
pub record InRange (s : List ℕ) : Type 0 where
  pub few_points : count_n s ≤ 4096
  pub few_rows : count_r s ≤ 4096
  pub mode : mode_of s ≤ 3
  pub resweeps : resweeps_of s ≤ 64
  pub as_many_points : length (points s) ≡ count_n s
  pub as_many_rows : length (rows s) ≡ count_r s
  pub rows_place : rows_at s ≡ head_end + point_end * count_n s
  pub rows_fill : rows_end s ≡ length s
  pub short : length s < 4294967296
