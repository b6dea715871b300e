-- `sweep::Row::warm` meets its contract. Assumes nothing.
use Rattle.std.proofs.Common.{refl, ◌∙◌, ap, arith}
use Rattle.stored.specs.Phases.{warm_row, warm_loss}
use Rattle.sweep.proofs.InFrame.{lent_is, lent_long, lent_whole, put_back, written_back}
use Rattle.sweep.proofs.Steps.{if_on}
use Rattle.sweep.proofs.Apart.{room_apart, stands_apart, recounted, warmed_apart}
use Rattle.sweep.proofs.Row.warm.Goals as goal

pub overflow_add-end : goal.overflow_add-end
overflow_add-end c = omega (arith, (room_apart _ _ c.requires.0).end)

pub slice_bounds-warm_row-end : goal.slice_bounds-warm_row-end
slice_bounds-warm_row-end c = omega (arith, (room_apart _ _ c.requires.0).end)

pub warm_row-loss-requires : goal.warm_row-loss-requires
warm_row-loss-requires c = lent_whole (stands_apart _ _ c.requires.0 _ refl)

pub returns-in-Some : goal.returns-in-Some
returns-in-Some c =
    let w = stands_apart _ _ c.requires.0 _ refl in
    let e = c.warm_row-loss.ensures in
    if_on _ _ _ _ c.in-Some.is
    (recounted c.take.auto.v _ _ _
    (warmed_apart _ _ c.requires.0 _ c.requires.1 (omega arith) c.take.ensures.fit _ (omega (arith, (room_apart _ _ c.requires.0).points, lent_long w _ c.warm_row-loss.auto.b)) _ _ c.take.ensures.lost _
    (put_back w (warm_row _) e.anew) (e.loss ∙ ap (warm_loss _) (lent_is w)) (written_back w (warm_row _) e.anew e.written)))
