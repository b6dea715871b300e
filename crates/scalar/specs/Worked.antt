-- The worked examples of the distance row: mode 1, which is the update and then the solve, of a row of two particles at rest. Assumes nothing.
use Rattle.std.specs.Prelude.{refl, true, false, List, [], ◌∷◌, Float, Some, None}
use Rattle.std.specs.Int.Count.{count_leading_zeros}
use Rattle.std.specs.Float.Ieee as ieee
use Rattle.std.specs.Float.{inf}
use Rattle.std.specs.Float.Ieee.{neg, of_bits, to_bits, is_nan}
use Rattle.loops.specs.Worked.{Row, ◌gives◌, Holds}
use Rattle.real.specs.Float.{◌⊖◌, f0, f1, f2, f½, f¼}
use Rattle.real.specs.Real as real
use Rattle.root.specs.Root.{root_of, root_bits, sig, power, near_root, floor_root, floor_from}
use Rattle.vector.specs.Vector as v
use Rattle.vector.specs.declared.Vec3.{Vec3}
use Rattle.vector.specs.declared.Four.{Four}
use Rattle.places.specs.Places as places
use Rattle.places.specs.Places.{refreshed, rate_of}
use Rattle.gradients.specs.Gradients.{compute_gradients, distance_gradients, unit_x}
use Rattle.scalar.specs.Row.{weight_of, respond, update, losses, sought_of, total_of, solve, with_peak, begin}
use Rattle.scalar.specs.declared.SoftScalarConstraint.{SoftScalarConstraint}

abbrev on_x : Float → Vec3
on_x x = record { x = x; y = f0; z = f0 }

abbrev origins : Four Vec3
origins = record { a = on_x f0; b = on_x f0; c = on_x f0; d = on_x f0 }

-- `rest` 1, `im` 1, `erp_inv_dt` 1, `cfm_coeff` 0, impulse 0, and no lower bound
abbrev distance_row : Float → SoftScalarConstraint
distance_row upper =
    record {
      kind = 0;
      count = 2;
      pos = origins;
      im = record { a = f1; b = f1; c = f1; d = f1 };
      grad = origins;
      spring = record { rest = f1; erp_inv_dt = f1; cfm_coeff = f0; lower = inf true; upper = upper };
      response = record { inv_lhs = f0; cfm_gain = f0; rhs = f0; impulse = f0; peak_impulse = f0 };
    }

-- two places that hold x and y, and two that are not named
abbrev two : Float → Float → places.Holds
two x y = record { a = Some (on_x x); b = Some (on_x y); c = None; d = None }

-- the impulse, and the velocities along x of particles that were at rest at 0 and x
abbrev pub answer : Float → Float → List Float
answer x upper =
    let s = solve (begin (distance_row upper) (two f0 x)) (two f0 f0) in
    s.state.response.impulse ∷ (f0 ⊖ s.loss.a.x) ∷ (f0 ⊖ s.loss.b.x) ∷ []

-- points (0,0,0) and (2,0,0) with infinite bounds; with the upper bound 0.25; both points at the origin
abbrev pub worked : List Row
worked =
    (answer f2 (inf false) gives (f½ ∷ f½ ∷ neg f½ ∷ []))
    ∷ (answer f2 f¼ gives (f¼ ∷ f¼ ∷ neg f¼ ∷ []))
    ∷ (answer f0 (inf false) gives (neg f½ ∷ neg f½ ∷ f½ ∷ []))
    ∷ []

pub holds : Holds worked
unfolding compute_gradients distance_gradients unit_x weight_of respond update losses rate_of sought_of total_of solve with_peak begin refreshed v.zero_vector v.sub v.neg v.scale v.divide v.dot v.length_of real.max real.clamp real.inv real.is_tiny root_of root_bits sig power near_root floor_root floor_from count_leading_zeros is_nan to_bits of_bits ieee.of_fields ieee.lt ieee.le ieee.eq ieee.add ieee.sub ieee.neg ieee.mul ieee.div ieee.sum ieee.round ieee.units ieee.odd ieee.span ieee.climb ieee.size
holds = (refl, (refl, (refl, tt)))
