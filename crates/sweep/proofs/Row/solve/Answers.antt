-- `sweep::Row::solve` meets its contract. Assumes nothing.
use Rattle.std.proofs.Common.{refl, ◌∙◌, ap, arith}
use Rattle.stored.specs.Phases.{solve_row, solve_loss}
use Rattle.sweep.proofs.InFrame.{lent_is, lent_long, lent_whole, put_back, written_back}
use Rattle.sweep.proofs.Apart.{room_apart, stands_apart, recounted, solved_apart}
use Rattle.sweep.proofs.Row.solve.Goals as goal

pub overflow_add-end : goal.overflow_add-end
overflow_add-end c = omega (arith, (room_apart _ _ c.requires.0).end)

pub slice_bounds-solve_row-end : goal.slice_bounds-solve_row-end
slice_bounds-solve_row-end c = omega (arith, (room_apart _ _ c.requires.0).end)

pub solve_row-loss-requires : goal.solve_row-loss-requires
solve_row-loss-requires c = lent_whole (stands_apart _ _ c.requires.0 _ refl)

pub returns : goal.returns
returns c =
    let w = stands_apart _ _ c.requires.0 _ refl in
    let e = c.solve_row-loss.ensures in
    recounted c.take.auto.v _ _ _
    (solved_apart _ _ c.requires.0 _ c.requires.1 (omega arith) c.take.ensures.fit _ (omega (arith, (room_apart _ _ c.requires.0).points, lent_long w _ c.solve_row-loss.auto.b)) _ _ c.take.ensures.lost _ c.of-vel.ensures
    (put_back w (solve_row _) e.anew) (e.loss ∙ ap (solve_loss _) (lent_is w)) (written_back w (solve_row _) e.anew e.written))
