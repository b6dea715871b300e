-- THE WORKED EXAMPLES HOLD, by computation. Assumes nothing.
use Rattle.std.specs.Prelude.{refl, ◌++◌}
use Rattle.std.specs.Int.Count.{count_leading_zeros}
use Rattle.std.specs.Float.Ieee as ieee
use Rattle.std.specs.Float.Ieee.{of_bits, to_bits, is_nan}
use Rattle.loops.specs.Worked.{Holds, joined}
use Rattle.root.specs.Root.{root_of, root_bits, sig, power, near_root, floor_root, floor_from}
use Rattle.root.specs.Worked as root
use Rattle.real.specs.Worked as real
use Rattle.real.specs.Real as r
use Rattle.vector.specs.Vector as v
use Rattle.linalg.specs.Worked as linalg
use Rattle.energy.specs.Worked as neo
use Rattle.places.specs.Places.{refreshed, rate_of}
use Rattle.gradients.specs.Gradients.{compute_gradients, distance_gradients, unit_x}
use Rattle.scalar.specs.Row as s
use Rattle.rows.specs.Row as row
use Rattle.rows.specs.Step as step
use Rattle.little_endian.specs.Bytes.{le16, le32, is_finite}
use Rattle.records.specs.Answers.{first_of, from}
use Rattle.records.specs.Fields.{limit16, limit32, code, finite, bound, ordered, cap, colour_from, run, head_fields, point_fields}
use Rattle.records.specs.Fields.{scalar_codes, scalar_floats, scalar_fields, elastic_codes, corotational_fields, neo_hookean_fields, fields}
use Rattle.records.specs.Records.{is_pair, is_due, shape, record_tests, records_tests, records, end_of, flatten}
use Rattle.clash.specs.Clash.{count_of, key_of, any_of, named_by, clashes, clash_tests}
use Rattle.frame.specs.Check.{extra, frame_tests, check_of}
use Rattle.floats.specs.Fields.{vec3_at, four_at, masses_at, ids_at, put_vec3, put_four}
use Rattle.stored.specs.Read.{row_of, constraint_of, scalar_of, spring_at, response_at}
use Rattle.stored.specs.Put.{put_response, put_scalar, put_constraint, put_update, solve_constraint, put_solve}
use Rattle.stored.specs.Points.{position, velocity, lose}
use Rattle.stored.specs.Run.{lay, swept, run_of, leaves}
use Rattle.worked.specs.Table.{heads, distances, clashing, table}

checks : Holds heads × Holds clashing
unfolding check_of frame_tests extra record_tests records_tests end_of shape is_due is_pair fields head_fields point_fields scalar_fields scalar_codes scalar_floats elastic_codes corotational_fields neo_hookean_fields limit16 limit32 code finite bound ordered cap colour_from run clash_tests clashes key_of count_of any_of named_by first_of from le16 le32 is_finite is_nan ieee.lt of_bits leaves run_of lay swept records flatten
checks = ((refl, (refl, (refl, (refl, tt)))), (refl, (refl, tt)))

runs : Holds distances
unfolding check_of frame_tests extra record_tests records_tests end_of shape is_due is_pair fields head_fields point_fields scalar_fields scalar_codes scalar_floats elastic_codes corotational_fields neo_hookean_fields limit16 limit32 code finite bound ordered cap colour_from run clash_tests clashes key_of count_of any_of named_by first_of from le16 le32 is_finite is_nan leaves run_of lay swept records flatten step.update step.update_of step.strained_of step.solve step.solve_of s.begin s.update s.with_peak s.weight_of s.respond s.is_strained s.solve s.total_of s.sought_of rate_of s.losses compute_gradients distance_gradients unit_x refreshed row.key_of row.names_of row.holds_of row_of constraint_of scalar_of spring_at response_at four_at vec3_at masses_at ids_at put_vec3 put_four put_response put_scalar put_constraint put_update solve_constraint put_solve position velocity lose v.zero_vector v.sub v.neg v.scale v.divide v.dot v.length_of r.abs r.max r.clamp r.inv r.is_tiny root_of root_bits sig power near_root floor_root floor_from count_leading_zeros to_bits of_bits ieee.of_fields ieee.lt ieee.le ieee.eq ieee.add ieee.sub ieee.neg ieee.mul ieee.div ieee.sum ieee.round ieee.units ieee.odd ieee.span ieee.climb ieee.size
runs = (refl, (refl, (refl, (refl, tt))))

pub holds : Holds table
holds = joined heads (root.worked ++ (distances ++ (real.worked ++ (linalg.worked ++ (neo.worked ++ clashing))))) checks.0 t5
  where
    t1 : Holds (neo.worked ++ clashing)
    t1 = joined neo.worked clashing neo.holds checks.1

    t2 : Holds (linalg.worked ++ (neo.worked ++ clashing))
    t2 = joined linalg.worked (neo.worked ++ clashing) linalg.holds t1

    t3 : Holds (real.worked ++ (linalg.worked ++ (neo.worked ++ clashing)))
    t3 = joined real.worked (linalg.worked ++ (neo.worked ++ clashing)) real.holds t2

    t4 : Holds (distances ++ (real.worked ++ (linalg.worked ++ (neo.worked ++ clashing))))
    t4 = joined distances (real.worked ++ (linalg.worked ++ (neo.worked ++ clashing))) runs t3

    t5 : Holds (root.worked ++ (distances ++ (real.worked ++ (linalg.worked ++ (neo.worked ++ clashing)))))
    t5 = joined root.worked (distances ++ (real.worked ++ (linalg.worked ++ (neo.worked ++ clashing)))) root.holds t4
