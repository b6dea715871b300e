-- The worked example of `symmetric_eigen`. Assumes nothing.
use Rattle.std.specs.Prelude.{refl, List, [], ◌∷◌, Float}
use Rattle.std.specs.Float.{binary32}
use Rattle.std.specs.Float.Ieee.{of_bits, add, mul, le}
use Rattle.loops.specs.Worked.{Row, ◌gives◌, Holds}
use Rattle.real.specs.Float.{f0, f1, f2}
use Rattle.vector.specs.declared.Vec3.{Vec3}
use Rattle.vector.specs.declared.Mat3.{Mat3}
use Rattle.vector.specs.Matrix.{identity}
use Rattle.linalg.specs.Eigen.{symmetric_eigen, sweeps}

abbrev f3 : Float
f3 = of_bits binary32 0x40400000

-- diag(v)
abbrev diagonal : Vec3 → Mat3
diagonal v = record { x = record { x = v.x; y = f0; z = f0 }; y = record { x = f0; y = v.y; z = f0 }; z = record { x = f0; y = f0; z = v.z } }

abbrev one_two_three : Vec3
one_two_three = record { x = f1; y = f2; z = f3 }

-- `symmetric_eigen` of diag(1,2,3): (1,2,3), identity
abbrev pub worked : List Row
worked = (symmetric_eigen (diagonal one_two_three) gives record { values = one_two_three; vectors = identity }) ∷ []

pub holds : Holds worked
unfolding symmetric_eigen sweeps identity add mul le of_bits
holds = (refl, tt)
