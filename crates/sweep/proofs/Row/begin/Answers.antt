-- `sweep::Row::begin` meets its contract. Assumes nothing.
use Rattle.sweep.proofs.Steps.{stands, update_stay}
use Rattle.sweep.proofs.Apart.{names_after}
use Rattle.sweep.proofs.Row.begin.Goals as goal

pub warm-requires : goal.warm-requires
warm-requires c = (stands _ _ _ _ _ _ c.requires.0 c.update.ensures, names_after _ _ c.requires.0 _ c.requires.1 _ (update_stay _ _) _ _ c.update.ensures)
