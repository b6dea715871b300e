-- `points::velocities::take` meets its contract. Assumes nothing.
use Rattle.points.proofs.Moved.{fits_taken}
use Rattle.points.proofs.velocities.take.Goals as goal

pub returns-clause-fit : goal.returns-clause-fit
returns-clause-fit c =
    let a = c.take_at.ensures in
    let b = c.take_at-2.ensures in
    let d = c.take_at-3.ensures in
    fits_taken _ _ _ _ c.args.i c.args.x a.lost b.lost d.lost a.fit b.fit d.fit c.take_at-4.ensures.fit
