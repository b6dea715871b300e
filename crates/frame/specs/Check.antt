-- WHAT CHECK ANSWERS: the first refusal of the frame's tests, in frame order. Assumes nothing.
use Rattle.std.specs.Prelude.{ℕ, List, [], length, ltb}
use Rattle.records.specs.declared.Answer.{Answer}
use Rattle.records.specs.declared.Due.TheVariants.{Head, Point, Row}
use Rattle.records.specs.Layout.{head_end}
use Rattle.records.specs.declared.Refusal.TheVariants.{ExtraBytes}
use Rattle.records.specs.Answers.{Test, ◌then◌, refuse, first_of}
use Rattle.records.specs.Records.{record_tests, records_tests}
use Rattle.clash.specs.Clash.{clash_tests}
use Rattle.frame.specs.Frames.{count_n, count_r, rows_at, rows_end}

-- 8: bytes after the last record
unfoldable pub extra : List ℕ → List Test
extra s = refuse ExtraBytes (rows_end s) (ltb (rows_end s) (length s))

-- the head, the points and the rows, each record by itself and in turn; then 8; then 9
unfoldable pub frame_tests : List ℕ → List Test
frame_tests s =
    record_tests Head s 0 0
    then records_tests Point (count_n s) s head_end 0
    then records_tests Row (count_r s) s (rows_at s) 0
    then extra s
    then clash_tests (count_n s) (count_r s) s (rows_at s) []

unfoldable pub check_of : List ℕ → Answer
check_of s = first_of (frame_tests s)
