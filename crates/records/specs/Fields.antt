-- The tests of one record's fields, for each kind of record in the order of the numbers 3 to 7, and for each number by rising place.
-- b is the record's bytes; places count from its start. Assumes nothing.
use Rattle.std.specs.Prelude.{ℕ, zero, suc, ◌+◌, cond, not, List, [], ltb, eqb}
use Rattle.std.specs.Float.{binary32}
use Rattle.std.specs.Float.Ieee.{of_bits, lt, is_nan}
use Rattle.little_endian.specs.Bytes.{le16, le32, f32_at, is_finite}
use Rattle.records.specs.Layout.{kind_at, head_points, head_rows, head_mode, head_resweeps, head_warm, point_position, row_colour}
use Rattle.records.specs.Layout.{row_strained, row_pos, scalar_type, scalar_count, scalar_lower, scalar_upper, elastic_inverted}
use Rattle.records.specs.Layout.{elastic_fourth, elastic_strain_cap, coro_vol_cap}
use Rattle.records.specs.declared.Refusal.TheVariants.{TooMany, BadCode, NotFinite, Disordered, ColourFalls}
use Rattle.records.specs.Answers.{Test, ◌then◌, refuse}

-- ---- single tests, each of the field at byte k

-- 3: a number above its limit
unfoldable pub limit16 : List ℕ → ℕ → ℕ → List Test
limit16 b k most = refuse TooMany k (ltb most (le16 b k))

unfoldable pub limit32 : List ℕ → ℕ → ℕ → List Test
limit32 b k most = refuse TooMany k (ltb most (le32 b k))

-- 4: a code outside its values, which are 0 to the last
unfoldable pub code : List ℕ → ℕ → ℕ → List Test
code b k last = refuse BadCode k (ltb last (le16 b k))

-- 5: a float that is not finite; an impulse bound may be infinite, but no NaN
unfoldable pub finite : List ℕ → ℕ → List Test
finite b k = refuse NotFinite k (not (is_finite (f32_at b k)))

unfoldable pub bound : List ℕ → ℕ → List Test
bound b k = refuse NotFinite k (is_nan (f32_at b k))

-- 6: a lower bound above the upper, which follows it; a cap below 0 (minus zero is not below 0)
unfoldable pub ordered : List ℕ → ℕ → List Test
ordered b k = refuse Disordered k (lt (f32_at b (k + 4)) (f32_at b k))

unfoldable pub cap : List ℕ → ℕ → List Test
cap b k = refuse Disordered k (lt (f32_at b k) (of_bits binary32 0))

-- 7: a colour less than that of the row before, c
unfoldable pub colour_from : List ℕ → ℕ → List Test
colour_from b c = refuse ColourFalls row_colour (ltb (le16 b row_colour) c)

-- the test t of n floats, one after another from byte k on
unfoldable pub run : (ℕ → List Test) → ℕ → ℕ → List Test
run t k zero = []
run t k (suc n) = t k then run t (k + 4) n

-- ---- each kind of record

unfoldable pub head_fields : List ℕ → List Test
head_fields b =
    (limit32 b head_points 4096 then limit32 b head_rows 4096 then limit16 b head_resweeps 64)
    then code b head_mode 3
    then run (finite b) head_warm 2

unfoldable pub point_fields : List ℕ → List Test
point_fields b = run (finite b) point_position 6

unfoldable pub scalar_codes : List ℕ → List Test
scalar_codes b = limit16 b scalar_count 4 then code b row_strained 1 then code b scalar_type 2

-- 36 floats from `pos` up to the bounds: (174 − 30) / 4
unfoldable pub scalar_floats : List ℕ → List Test
scalar_floats b = run (finite b) row_pos 36 then bound b scalar_lower then bound b scalar_upper

unfoldable pub scalar_fields : List ℕ → ℕ → List Test
scalar_fields b c = scalar_codes b then scalar_floats b then ordered b scalar_lower then colour_from b c

-- the fourth number of an elastic row is a code too
unfoldable pub elastic_codes : List ℕ → ℕ → List Test
elastic_codes b last = code b row_strained 1 then code b elastic_inverted 1 then code b elastic_fourth last

-- 147 floats from `pos` to the record's end: (618 − 30) / 4
unfoldable pub corotational_fields : List ℕ → ℕ → List Test
corotational_fields b c =
    elastic_codes b 1
    then run (finite b) row_pos 147
    then (run (cap b) elastic_strain_cap 6 then cap b coro_vol_cap)
    then colour_from b c

-- 162 floats from `pos` to the record's end: (678 − 30) / 4
unfoldable pub neo_hookean_fields : List ℕ → ℕ → List Test
neo_hookean_fields b c =
    elastic_codes b 0
    then run (finite b) row_pos 162
    then run (cap b) elastic_strain_cap 6
    then colour_from b c

-- by the record's kind; c is the colour of the row before
unfoldable pub fields : List ℕ → ℕ → List Test
fields b c =
    cond (eqb (le16 b kind_at) 1) (head_fields b)
    (cond (eqb (le16 b kind_at) 2) (point_fields b)
    (cond (eqb (le16 b kind_at) 3) (scalar_fields b c)
    (cond (eqb (le16 b kind_at) 4) (corotational_fields b c)
    (neo_hookean_fields b c))))
