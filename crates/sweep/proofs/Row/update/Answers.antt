-- `sweep::Row::update` meets its contract. Assumes nothing.
use Rattle.std.proofs.Common.{refl, arith}
use Rattle.stored.specs.Phases.{update_row}
use Rattle.sweep.proofs.InFrame.{lent_whole, put_back, written_back}
use Rattle.sweep.proofs.Steps.{if_on}
use Rattle.sweep.proofs.Apart.{room_apart, stands_apart, updated_apart}
use Rattle.sweep.proofs.Row.update.Goals as goal

pub invariant_of-points : goal.invariant_of-points
invariant_of-points c = let r = room_apart _ _ c.requires.0 in record { few = r.few; room = r.points }

pub overflow_add-end : goal.overflow_add-end
overflow_add-end c = omega (arith, (room_apart _ _ c.requires.0).end)

pub slice_bounds-update_row-end : goal.slice_bounds-update_row-end
slice_bounds-update_row-end c = omega (arith, (room_apart _ _ c.requires.0).end)

pub update_row-requires : goal.update_row-requires
update_row-requires c = lent_whole (stands_apart _ _ c.requires.0 _ refl)

pub returns-in-Some : goal.returns-in-Some
returns-in-Some c =
    let w = stands_apart _ _ c.requires.0 _ refl in
    let e = c.update_row.ensures in
    if_on _ _ _ _ c.in-Some.is
    (updated_apart _ _ c.requires.0 _ c.requires.1 _ _ _ c.positions-held.ensures (put_back w (update_row _ _) e.anew) (written_back w (update_row _ _) e.anew e.written))
