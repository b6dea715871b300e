-- Six-vectors, lists of six floats: one part for each strain row. Definitions only. Assumes nothing.
use Rattle.std.specs.Prelude.{Bool, ◌&&◌, ◌||◌, List, Float}
use Rattle.std.specs.Float.Ieee.{le, lt}
use Rattle.real.specs.Float.{◌⊕◌, ◌⊗◌, at}
use Rattle.real.specs.Real.{abs}
use Rattle.strain.specs.Parts.{add, sub, component_mul, scale}

abbrev pub add6 : List Float → List Float → List Float
add6 = add 6

abbrev pub sub6 : List Float → List Float → List Float
sub6 = sub 6

abbrev pub component_mul6 : List Float → List Float → List Float
component_mul6 = component_mul 6

abbrev pub scale6 : List Float → Float → List Float
scale6 = scale 6

-- the sum runs from index 0, the first product itself the start
unfoldable pub dot6 : List Float → List Float → Float
dot6 a b = at a 0 ⊗ at b 0 ⊕ at a 1 ⊗ at b 1 ⊕ at a 2 ⊗ at b 2 ⊕ at a 3 ⊗ at b 3 ⊕ at a 4 ⊗ at b 4 ⊕ at a 5 ⊗ at b 5

-- `iter().all(|x| x.abs() <= limit)`
unfoldable pub all_within6 : List Float → Float → Bool
all_within6 a limit =
    le (abs (at a 0)) limit && le (abs (at a 1)) limit && le (abs (at a 2)) limit && le (abs (at a 3)) limit && le (abs (at a 4)) limit && le (abs (at a 5)) limit

-- `iter().any(|x| x.abs() > limit)`
unfoldable pub any_above6 : List Float → Float → Bool
any_above6 a limit =
    lt limit (abs (at a 0)) || lt limit (abs (at a 1)) || lt limit (abs (at a 2)) || lt limit (abs (at a 3)) || lt limit (abs (at a 4)) || lt limit (abs (at a 5))
