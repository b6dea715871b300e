-- `linalg::symmetric_eigen` meets its contract: what is to come of the state before each turn of the loop is what was to come of it at
-- first, and such a turn is a sweep. Assumes nothing.
use Rattle.std.proofs.Common.{rules, ap, ◌∙◌}
use Rattle.loops.specs.Loops.{coming_more, coming_stop, coming_end}
use Rattle.linalg.specs.Eigen.{turn, sweep, sweeps, eigen_of, symmetric_eigen}
use Rattle.linalg.proofs.symmetric_eigen.Goals as goal
use Rattle.linalg.proofs.symmetric_eigen.Goals.{else-loop-test, then-loop-test+then-is_settled}

pub loop-preserved : goal.loop-preserved
unfolding sweep
loop-preserved c =
    coming_more c.loop.invariant (search rules) (cc)
    (c.turn-in-loop-2.ensures ∙ ap (turn 1 2) (c.turn-in-loop.ensures ∙ ap (turn 0 2) c.turn.ensures))

pub returns : goal.returns
unfolding symmetric_eigen sweeps
returns c =
    let loop = c.loop in
    c.eigen_of.ensures
    ∙ ap eigen_of
    (elim c.loop-test.branch [
      | else-loop-test w ↦ coming_end loop.invariant (search rules)
      | then-loop-test+then-is_settled w ↦ coming_stop loop.invariant (search rules) (cc)
    ])
