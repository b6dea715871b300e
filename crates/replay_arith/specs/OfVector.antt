-- The records of the functions of the crate `vector` on vectors: the answer to a record's first words stands after them. Definitions only. Assumes nothing.
use Rattle.std.specs.Prelude.{ℕ, Bool, List, [], ◌∷◌}
use Rattle.vector.specs.Vector as v
use Rattle.replay.specs.Words.{float, vec3, float_is, vec3_is}
use Rattle.replay.specs.Tallies.{File}
use Rattle.replay_arith.specs.declared.of_vector.Vector.{Vector}
use Rattle.replay_arith.specs.declared.of_vector.Vector.TheVariants.{Dot, Cross, Length, LengthSquared, ElementSum, Add, Sub, Scale, Divide, Neg}

abbrev pub of_vector : Vector → List ℕ → Bool
of_vector Dot w = float_is w 6 (v.dot (vec3 w 0) (vec3 w 3))
of_vector Cross w = vec3_is w 6 (v.cross (vec3 w 0) (vec3 w 3))
of_vector Length w = float_is w 3 (v.length_of (vec3 w 0))
of_vector LengthSquared w = float_is w 3 (v.length_squared (vec3 w 0))
of_vector ElementSum w = float_is w 3 (v.element_sum (vec3 w 0))
of_vector Add w = vec3_is w 6 (v.add (vec3 w 0) (vec3 w 3))
of_vector Sub w = vec3_is w 6 (v.sub (vec3 w 0) (vec3 w 3))
of_vector Scale w = vec3_is w 4 (v.scale (vec3 w 0) (float w 3))
of_vector Divide w = vec3_is w 4 (v.divide (vec3 w 0) (float w 3))
of_vector Neg w = vec3_is w 3 (v.neg (vec3 w 0))

-- each with the words of its records
abbrev pub files : List File
files =
    record { agrees = of_vector Dot; size = 7 }
    ∷ record { agrees = of_vector Cross; size = 9 }
    ∷ record { agrees = of_vector Length; size = 4 }
    ∷ record { agrees = of_vector LengthSquared; size = 4 }
    ∷ record { agrees = of_vector ElementSum; size = 4 }
    ∷ record { agrees = of_vector Add; size = 9 }
    ∷ record { agrees = of_vector Sub; size = 9 }
    ∷ record { agrees = of_vector Scale; size = 7 }
    ∷ record { agrees = of_vector Divide; size = 7 }
    ∷ record { agrees = of_vector Neg; size = 6 }
    ∷ []
