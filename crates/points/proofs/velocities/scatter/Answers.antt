-- One velocity after another put back. Assumes nothing.
use Rattle.std.proofs.Common.{refl, ap, ◌∙◌, ℕ}
use Rattle.floats.specs.Fields.{put_vec3}
use Rattle.points.specs.Apart.{vec_of}
use Rattle.points.proofs.Moved.{scattered_none, scattered_more}
use Rattle.points.proofs.velocities.scatter.Goals as goal

pub loop-i-init : goal.loop-i-init
loop-i-init c = scattered_none _ _

pub loop-i-preserved : goal.loop-i-preserved
loop-i-preserved c =
    let v = c.args.v.now in
    let l = c.loop-i in
    scattered_more v c.args.s.now l.i l.s l.invariant _ _ refl
    (c.put.ensures.0 ∙ ap (λ (k : ℕ). put_vec3 l.s k (vec_of v l.i)) c.velocity_at.ensures)
