-- What the main sweep does with each row, by the frame's head. Definitions only. Assumes nothing.
use Rattle.std.specs.Prelude.{ℕ, cond, List, Some, None}
use Rattle.frame.specs.Frames.{mode_of}
use Rattle.stored.specs.Run.{updates, warms, warm_coefficient, least_strain}
use Rattle.sweep.specs.declared.Phases.{Phases}

unfoldable pub main_phases : List ℕ → Phases
main_phases s =
    record {
      update = cond (updates (mode_of s)) (Some (least_strain s)) None;
      warm = cond (warms (mode_of s)) (Some (warm_coefficient s)) None;
    }
