-- The records of the functions of the crates `root` and `real`: the answer to a record's first words stands after them. Definitions only. Assumes nothing.
use Rattle.std.specs.Prelude.{ℕ, ◌+◌, Bool, ◌&&◌, List, [], ◌∷◌}
use Rattle.root.specs.Root.{root_of}
use Rattle.real.specs.Real.{abs, signum, max, clamp, inv}
use Rattle.real.specs.Acos.{acos}
use Rattle.real.specs.SinCos.{sin_cos, rem_turn}
use Rattle.real.specs.declared.SinCos as pair
use Rattle.replay.specs.Words.{float, float_is}
use Rattle.replay.specs.Tallies.{File}
use Rattle.replay_arith.specs.declared.of_real.Real.{Real}
use Rattle.replay_arith.specs.declared.of_real.Real.TheVariants.{Root, SinCos, Acos, Max, Clamp, Signum, Abs, Inv, RemTurn}

abbrev pub sin_cos_is : List ℕ → ℕ → pair.SinCos → Bool
sin_cos_is w k r = float_is w k r.s && float_is w (k + 1) r.c

abbrev pub of_real : Real → List ℕ → Bool
of_real Root w = float_is w 1 (root_of (float w 0))
of_real SinCos w = sin_cos_is w 1 (sin_cos (float w 0))
of_real Acos w = float_is w 1 (acos (float w 0))
of_real Max w = float_is w 2 (max (float w 0) (float w 1))
of_real Clamp w = float_is w 3 (clamp (float w 0) (float w 1) (float w 2))
of_real Signum w = float_is w 1 (signum (float w 0))
of_real Abs w = float_is w 1 (abs (float w 0))
of_real Inv w = float_is w 1 (inv (float w 0))
of_real RemTurn w = float_is w 1 (rem_turn (float w 0))

-- each with the words of its records
abbrev pub files : List File
files =
    record { agrees = of_real Root; size = 2 }
    ∷ record { agrees = of_real SinCos; size = 3 }
    ∷ record { agrees = of_real Acos; size = 2 }
    ∷ record { agrees = of_real Max; size = 3 }
    ∷ record { agrees = of_real Clamp; size = 4 }
    ∷ record { agrees = of_real Signum; size = 2 }
    ∷ record { agrees = of_real Abs; size = 2 }
    ∷ record { agrees = of_real Inv; size = 2 }
    ∷ record { agrees = of_real RemTurn; size = 2 }
    ∷ []
