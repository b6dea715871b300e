-- The records of the functions of the crates `strain` and `inverse`: the answer to a record's first words stands after them. Definitions only. Assumes nothing.
use Rattle.std.specs.Prelude.{ℕ, Bool, List, [], ◌∷◌}
use Rattle.strain.specs.Six.{add6, sub6, scale6, component_mul6, dot6}
use Rattle.strain.specs.Matrix.{mat_vec, mat_mul, add36, scale36, ger, from_diagonal, identity6}
use Rattle.inverse.specs.Inverse.{try_inverse}
use Rattle.replay.specs.Words.{float, six, flat, float_is, six_is, flat_is}
use Rattle.replay.specs.Tallies.{File}
use Rattle.replay_arith.specs.declared.of_strain.Strain.{Strain}
use Rattle.replay_arith.specs.declared.of_strain.Strain.TheVariants.{Add6, Sub6, Scale6, ComponentMul6, Dot6, MatVec, MatMul, Add36, Scale36, Ger, FromDiagonal, Identity6, TryInverse}

abbrev pub of_strain : Strain → List ℕ → Bool
of_strain Add6 w = six_is w 12 (add6 (six w 0) (six w 6))
of_strain Sub6 w = six_is w 12 (sub6 (six w 0) (six w 6))
of_strain Scale6 w = six_is w 7 (scale6 (six w 0) (float w 6))
of_strain ComponentMul6 w = six_is w 12 (component_mul6 (six w 0) (six w 6))
of_strain Dot6 w = float_is w 12 (dot6 (six w 0) (six w 6))
of_strain MatVec w = six_is w 42 (mat_vec (flat w 0) (six w 36))
of_strain MatMul w = flat_is w 72 (mat_mul (flat w 0) (flat w 36))
of_strain Add36 w = flat_is w 72 (add36 (flat w 0) (flat w 36))
of_strain Scale36 w = flat_is w 37 (scale36 (flat w 0) (float w 36))
of_strain Ger w = flat_is w 43 (ger (float w 0) (six w 1) (flat w 7))
of_strain FromDiagonal w = flat_is w 6 (from_diagonal (six w 0))
of_strain Identity6 w = flat_is w 0 identity6
of_strain TryInverse w = flat_is w 36 (try_inverse (flat w 0))

-- each with the words of its records
abbrev pub files : List File
files =
    record { agrees = of_strain Add6; size = 18 }
    ∷ record { agrees = of_strain Sub6; size = 18 }
    ∷ record { agrees = of_strain Scale6; size = 13 }
    ∷ record { agrees = of_strain ComponentMul6; size = 18 }
    ∷ record { agrees = of_strain Dot6; size = 13 }
    ∷ record { agrees = of_strain MatVec; size = 48 }
    ∷ record { agrees = of_strain MatMul; size = 108 }
    ∷ record { agrees = of_strain Add36; size = 108 }
    ∷ record { agrees = of_strain Scale36; size = 73 }
    ∷ record { agrees = of_strain Ger; size = 79 }
    ∷ record { agrees = of_strain FromDiagonal; size = 42 }
    ∷ record { agrees = of_strain Identity6; size = 36 }
    ∷ record { agrees = of_strain TryInverse; size = 72 }
    ∷ []
