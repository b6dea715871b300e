-- The rotation nearest to a 3x3 matrix, from a warm start, as soft_body_shape_matching.rs has it. Definitions only. Assumes nothing.
use Rattle.std.specs.Prelude.{Bool, cond, Float}
use Rattle.std.specs.Float.{binary32}
use Rattle.std.specs.Float.Ieee.{lt, of_bits}
use Rattle.loops.specs.Loops.{while_up_to}
use Rattle.real.specs.Float.{◌⊕◌, ◌⊗◌, ◌⊘◌, f0, f1, f½}
use Rattle.real.specs.Real.{abs}
use Rattle.vector.specs.Vector.{zero_vector, add, scale, divide, dot, cross, length_of}
use Rattle.vector.specs.Quaternion.{product, normalise, to_matrix, from_axis_angle}
use Rattle.vector.specs.declared.Vec3.{Vec3}
use Rattle.vector.specs.declared.Mat3.{Mat3}
use Rattle.vector.specs.declared.Quat.{Quat}

-- 0.1
abbrev pub tenth : Float
tenth = of_bits binary32 0x3dcccccd

-- 1.0e-9
abbrev pub nano : Float
nano = of_bits binary32 0x3089705f

-- 16 times f32's EPSILON: 2 ^ -19
abbrev pub noise : Float
noise = of_bits binary32 0x36000000

-- columns crossed, and summed from zero
unfoldable pub cross_sum : Mat3 → Mat3 → Vec3
cross_sum r a = add (add (add zero_vector (cross r.x a.x)) (cross r.y a.y)) (cross r.z a.z)

unfoldable pub dot_sum : Mat3 → Mat3 → Float
dot_sum r a = f0 ⊕ dot r.x a.x ⊕ dot r.y a.y ⊕ dot r.z a.z

-- the source's omega: an axis to turn q about, as long as the angle
unfoldable pub correction : Mat3 → Quat → Vec3
correction a q = let r = to_matrix q in scale (cross_sum r a) (f1 ⊘ (abs (dot_sum r a) ⊕ nano))

-- the small-correction test
unfoldable pub settled : Mat3 → Quat → Bool
settled a q = lt (length_of (correction a q)) noise

-- a correction of more than 0.1 is taken by its axis and angle, any other to the first order
unfoldable pub step : Vec3 → Float → Quat
step o w = cond (lt tenth w) (from_axis_angle (divide o w) w) (record { x = f½ ⊗ o.x; y = f½ ⊗ o.y; z = f½ ⊗ o.z; w = f1 })

-- q after a turn by the correction o, which is w long
unfoldable pub turned : Vec3 → Float → Quat → Quat
turned o w q = normalise (product (step o w) q)

unfoldable pub next : Mat3 → Quat → Quat
next a q = turned (correction a q) (length_of (correction a q)) q

-- at most eight turns
unfoldable pub extract_rotation : Mat3 → Quat → Quat
extract_rotation a warm = while_up_to 8 (settled a) (next a) warm
