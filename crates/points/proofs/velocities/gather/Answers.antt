-- One velocity after another set apart. Assumes nothing.
use Rattle.std.proofs.Common.{ap, ◌∙◌, arith}
use Rattle.floats.specs.Fields.{vec3_at}
use Rattle.points.proofs.Moved.{apart_more, none_moved}
use Rattle.points.proofs.velocities.gather.Goals as goal

pub loop-i-init : goal.loop-i-init
loop-i-init c = λ i b. absurd (omega arith)

pub loop-i-preserved : goal.loop-i-preserved
loop-i-preserved c = apart_more _ _ _ _ (omega arith) c.loop-i.invariant (c.vec3_at.ensures ∙ ap (vec3_at c.args.s.now) c.velocity_at.ensures)

pub returns-clause-same : goal.returns-clause-same
returns-clause-same c = λ calm. none_moved _ _ _ (λ j. omega (arith, c.type_inv.s j)) calm (λ i b. c.loop-i.invariant i (omega arith))
