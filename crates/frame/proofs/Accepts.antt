-- Not every frame is refused: one of a head alone, and one with a row, are accepted. Assumes nothing.
use Rattle.std.specs.Prelude.{ℕ, ◌≡◌, refl, List, ◌++◌, replicate}
use Rattle.std.specs.Float.Ieee.{lt, is_nan, of_bits}
use Rattle.little_endian.specs.Bytes.{bytes2, bytes4, le16, le32, is_finite}
use Rattle.records.specs.Answers.{accepted, first_of, from}
use Rattle.records.specs.Fields.{limit16, limit32, code, finite, bound, ordered, cap, colour_from, run, head_fields, point_fields}
use Rattle.records.specs.Fields.{scalar_codes, scalar_floats, scalar_fields, elastic_codes, corotational_fields, neo_hookean_fields, fields}
use Rattle.records.specs.Records.{is_pair, is_due, shape, record_tests, records_tests, end_of}
use Rattle.clash.specs.Clash.{count_of, key_of, any_of, named_by, clashes, clash_tests}
use Rattle.frame.specs.Check.{extra, frame_tests, check_of}

-- a head: N, R, and zeros
abbrev head_of : ℕ → ℕ → List ℕ
head_of n r = bytes4 22 ++ (bytes2 1 ++ (bytes4 n ++ (bytes4 r ++ replicate 12 0)))

-- a point with every float 0, and a scalar row of zeros
abbrev point : List ℕ
point = bytes4 26 ++ (bytes2 2 ++ replicate 24 0)

abbrev row : List ℕ
row = bytes4 178 ++ (bytes2 3 ++ replicate 176 0)

pub a_head_accepted : check_of (head_of 0 0) ≡ accepted
unfolding check_of frame_tests extra record_tests records_tests end_of shape is_due is_pair fields head_fields limit16 limit32 code finite run clash_tests first_of from le16 le32 is_finite of_bits
a_head_accepted = refl

pub a_row_accepted : check_of (head_of 1 1 ++ (point ++ row)) ≡ accepted
unfolding check_of frame_tests extra record_tests records_tests end_of shape is_due is_pair fields head_fields point_fields scalar_fields scalar_codes scalar_floats elastic_codes corotational_fields neo_hookean_fields limit16 limit32 code finite bound ordered cap colour_from run clash_tests clashes key_of count_of any_of named_by first_of from le16 le32 is_finite is_nan lt of_bits
a_row_accepted = refl
