-- A run moves points and takes its resweeps: a frame of one point at rest and one row that pulls it, run whole, by computation. Assumes nothing.
use Rattle.std.proofs.Common.{ℕ, ◌≡◌, refl, ap, ◌∙◌, List, [], ◌++◌, get_or, replicate, Float}
use Rattle.std.specs.Float.Ieee.{binary32, is_nan, of_bits, to_bits}
use Rattle.std.specs.Float.Ieee as ieee
use Rattle.real.specs.Float.{f0, f½}
use Rattle.real.specs.Real as r
use Rattle.vector.specs.Vector as v
use Rattle.places.specs.Places.{rate_of}
use Rattle.scalar.specs.Row as s
use Rattle.rows.specs.Row as row
use Rattle.rows.specs.Step as step
use Rattle.little_endian.specs.Bytes.{bytes2, bytes4, f32_at, le16, le32, is_finite}
use Rattle.records.specs.Layout as at
use Rattle.records.specs.Answers.{accepted, first_of, from}
use Rattle.records.specs.Fields.{limit16, limit32, code, finite, bound, ordered, cap, colour_from, run, head_fields, point_fields}
use Rattle.records.specs.Fields.{scalar_codes, scalar_floats, scalar_fields, elastic_codes, corotational_fields, neo_hookean_fields, fields}
use Rattle.records.specs.Records.{is_pair, is_due, shape, record_tests, records_tests, records, end_of, flatten}
use Rattle.clash.specs.Clash.{count_of, key_of, any_of, named_by, clashes, clash_tests}
use Rattle.frame.specs.Frames.{points}
use Rattle.frame.specs.Check.{extra, frame_tests, check_of}
use Rattle.floats.specs.Fields.{vec3_at, four_at, masses_at, ids_at, put_vec3}
use Rattle.stored.specs.Read.{row_of, constraint_of, scalar_of, spring_at, response_at}
use Rattle.stored.specs.Put.{solve_constraint, put_solve}
use Rattle.stored.specs.Points.{position, velocity, lose}
use Rattle.stored.specs.Run.{lay, swept, run_of, leaves}

abbrev zeros : ℕ → List ℕ
zeros n = replicate n 0

-- mode 0; one point at rest at the origin; a row of count 1 along x with `im` 1, a gradient of 1, `inv_lhs` 0.5, `rhs` -1 and infinite bounds
abbrev pub pulled : ℕ → ℕ → List ℕ
pulled resweeps strained =
    (bytes4 22 ++ (bytes2 1 ++ (bytes4 1 ++ (bytes4 1 ++ (bytes2 0 ++ (bytes2 resweeps ++ zeros 8))))))
    ++ ((bytes4 26 ++ (bytes2 2 ++ zeros 24))
    ++ (bytes4 178
    ++ (bytes2 3
    ++ (bytes2 0
    ++ (bytes2 strained
    ++ (bytes2 0
    ++ (bytes2 1
    ++ (zeros 64
    ++ (bytes4 0x3f800000
    ++ (zeros 12
    ++ (bytes4 0x3f800000
    ++ (zeros 56
    ++ (bytes4 0x3f000000 ++ (bytes4 0 ++ (bytes4 0xbf800000 ++ (zeros 8 ++ (bytes4 0xff800000 ++ bytes4 0x7f800000)))))))))))))))))

-- the velocity of the first point along x
abbrev pub along_x : List ℕ → Float
along_x x = f32_at (get_or (points x) 0 []) at.point_velocity

abbrev pub speed : List ℕ → Float
speed x = along_x (run_of x)

pub pulled_accepted : check_of (pulled 1 1) ≡ accepted
unfolding check_of frame_tests extra record_tests records_tests end_of shape is_due is_pair fields head_fields point_fields scalar_fields scalar_codes scalar_floats elastic_codes corotational_fields neo_hookean_fields limit16 limit32 code finite bound ordered cap colour_from run clash_tests clashes key_of count_of any_of named_by first_of from le16 le32 is_finite is_nan ieee.lt of_bits
pulled_accepted = refl

-- the main sweep takes half of what the bias asks for, a resweep half of what is left; a row that is not strained is not solved again
abbrev f¾ : Float
f¾ = of_bits binary32 0x3f400000

pub speeds : (speed (pulled 0 1) ≡ f½) × ((speed (pulled 1 1) ≡ f¾) × (speed (pulled 1 0) ≡ f½))
unfolding end_of le16 le32 is_nan run_of lay swept records flatten step.solve step.solve_of s.solve s.total_of s.sought_of rate_of s.losses row.key_of row.names_of row.holds_of row_of constraint_of scalar_of spring_at response_at four_at vec3_at masses_at ids_at put_vec3 solve_constraint put_solve position velocity lose v.zero_vector v.sub v.scale v.dot r.clamp to_bits of_bits ieee.of_fields ieee.lt ieee.le ieee.eq ieee.add ieee.sub ieee.neg ieee.mul ieee.sum ieee.round ieee.units ieee.odd ieee.span ieee.climb ieee.size
speeds = (refl, (refl, refl))

-- of an accepted frame the run is left
pub left : (x : List ℕ) → check_of x ≡ accepted → leaves x ≡ run_of x
unfolding leaves run_of
left x e = rw e refl

pub at_rest : along_x (pulled 1 1) ≡ f0
unfolding end_of le16 le32 records is_nan of_bits
at_rest = refl

-- an accepted frame with a row, whose point is at rest before the run and not after it
pub moves : (check_of (pulled 1 1) ≡ accepted) × ((along_x (pulled 1 1) ≡ f0) × (along_x (leaves (pulled 1 1)) ≡ f¾))
moves = (pulled_accepted, (at_rest, ap along_x (left (pulled 1 1) pulled_accepted) ∙ speeds.1.0))
