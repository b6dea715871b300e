-- The worked examples of these functions. Assumes nothing.
use Rattle.std.specs.Prelude.{refl, List, [], ◌∷◌}
use Rattle.std.specs.Float.Ieee.{neg, le, of_bits}
use Rattle.loops.specs.Worked.{Row, ◌gives◌, Holds}
use Rattle.real.specs.Float.{f0}
use Rattle.real.specs.Real.{inv, is_tiny, inv_epsilon}

-- `inv` of 1.0e-20 is 0
abbrev pub worked : List Row
worked = (inv inv_epsilon gives f0) ∷ []

pub holds : Holds worked
unfolding inv is_tiny le neg of_bits
holds = (refl, tt)
