-- `clash::is_clashing` meets its contract. Assumes nothing.
use Rattle.std.proofs.Common.{rules, tests}
use Rattle.std.proofs.lemmas.Iterator.{YieldsList-from_slice}
use Rattle.std.proofs.lemmas.Iterator.Search.{any_from_yields_List}
use Rattle.clash.specs.Marks.{is_marked}
use Rattle.clash.proofs.Rows.{row_clashing}
use Rattle.clash.proofs.is_clashing.Goals as goal

pub returns-then-q : goal.returns-then-q
returns-then-q c =
    row_clashing _ c.args.q c.if-q.true
    (any_from_yields_List (is_marked c.args.marks.now c.args.q.colour) _ _ c.any.result c.any.ensures.ran (YieldsList-from_slice c.args.q.ids cc) (λ x b q k. search (rules, tests)))
