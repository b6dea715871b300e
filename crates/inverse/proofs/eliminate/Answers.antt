-- `inverse::eliminate` meets its contract. `eliminate_all` says what the loops come to. Assumes nothing.
use Rattle.std.proofs.Common.{rules, ◌∙◌}
use Rattle.loops.specs.Between.{went_all}
use Rattle.inverse.specs.Elimination.{eliminate_all}
use Rattle.inverse.proofs.eliminate.Goals as goal

pub returns : goal.returns
returns c = rw c.scale.ensures at (went_all c.loop-k.invariant (search rules)) ∙ eliminate_all _ _ _ c.requires.0 c.requires.1
