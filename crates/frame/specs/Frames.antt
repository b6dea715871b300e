-- The parts of a frame: one head, N points, R rows, as lists of each record's bytes. Definitions only. Assumes nothing.
use Rattle.std.specs.Prelude.{ℕ, List, take}
use Rattle.little_endian.specs.Bytes.{le16, le32}
use Rattle.records.specs.Layout.{head_points, head_rows, head_mode, head_resweeps, head_end}
use Rattle.records.specs.Records.{records, end_of}

-- the head's numbers: points N, rows R, mode, resweeps
abbrev pub count_n : List ℕ → ℕ
count_n s = le32 s head_points

abbrev pub count_r : List ℕ → ℕ
count_r s = le32 s head_rows

abbrev pub mode_of : List ℕ → ℕ
mode_of s = le16 s head_mode

abbrev pub resweeps_of : List ℕ → ℕ
resweeps_of s = le16 s head_resweeps

-- the points start behind the head, the rows behind the points
abbrev pub rows_at : List ℕ → ℕ
rows_at s = end_of (count_n s) s head_end

abbrev pub rows_end : List ℕ → ℕ
rows_end s = end_of (count_r s) s (rows_at s)

abbrev pub head : List ℕ → List ℕ
head s = take head_end s

abbrev pub points : List ℕ → List (List ℕ)
points s = records (count_n s) s head_end

abbrev pub rows : List ℕ → List (List ℕ)
rows s = records (count_r s) s (rows_at s)
