use Rattle.std.specs.Prelude.{◌-◌}
use Rattle.loops.specs.Loops.{Coming}
use Rattle.linalg.specs.Eigen.{State, settled, sweep}
use Rattle.linalg.specs.Steps.{state_of}
use Rattle.linalg.proofs.symmetric_eigen.Given as goal

abbrev pub invariant-loop : goal.invariant-loop
invariant-loop l = Coming {S = State} 8 (λ x. settled x.a) sweep (state_of l.initial.t) l.counter (state_of l.t)

abbrev pub decreases-loop : goal.decreases-loop
decreases-loop l = 8 - l.counter
