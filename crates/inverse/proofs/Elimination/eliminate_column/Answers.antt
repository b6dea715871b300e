-- `inverse::Elimination::eliminate_column` meets its contract. One law for each return. Assumes nothing.
use Rattle.std.specs.Prelude.{◌≡◌, length}
use Rattle.std.proofs.Common.{rules, sym, ◌∙◌}
use Rattle.std.proofs.lemmas.List.Edits.{swap_is}
use Rattle.inverse.specs.Pivot.{length-swap_rows}
use Rattle.inverse.specs.Elimination.{length-eliminate}
use Rattle.inverse.specs.Factors.{factor_stops, factor_goes}
use Rattle.inverse.proofs.Elimination.eliminate_column.Goals as goal

pub invariant_of-self : goal.invariant_of-self
invariant_of-self c = record { sizes = (rw c.swap_rows.ensures (length-swap_rows _ _ _), search rules) }

pub returns-then-d : goal.returns-then-d
returns-then-d c = factor_stops _ _ _ c.pivot_row-p.ensures.0 c.swap_rows.ensures c.if-d.true

pub eliminate-requires : goal.eliminate-requires
eliminate-requires c = (rw c.swap_rows.ensures (length-swap_rows _ _ _), search rules)

pub invariant_of-self-2 : goal.invariant_of-self-2
invariant_of-self-2 c = record { sizes = (rw c.eliminate.ensures (length-eliminate _ _ _), search rules) }

pub returns : goal.returns
returns c =
    let six : length c.args.self.now.rows ≡ 6 = search rules in
    let swapped = c.swap.ensures.after ∙ sym (swap_is _ _ _ 0 (rw six (search rules)) (rw six c.pivot_row-p.ensures.1)) in
    factor_goes _ _ _ c.pivot_row-p.ensures.0 c.swap_rows.ensures c.if-d.false c.eliminate.ensures swapped
