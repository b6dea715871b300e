-- `rows_ffi::of_row::rt_row_update` meets its contract, by whether the bytes are a row's record. Assumes nothing.
use Rattle.std.proofs.Common.{refl, sym, ap, ◌∙◌}
use Rattle.places.specs.Places.{Holds}
use Rattle.stored.specs.Phases.{update_row}
use Rattle.rows_ffi.specs.Record.{updated}
use Rattle.rows_ffi.proofs.Alone.{whole}
use Rattle.rows_ffi.proofs.of_row.rt_row_update.Goals as goal

pub update_row-requires : goal.update_row-requires
update_row-requires c = whole _ (sym c.is_row.ensures ∙ c.if-is_row.true)

pub returns-then-is_row : goal.returns-then-is_row
unfolding updated
returns-then-is_row c =
    let is = (sym c.is_row.ensures ∙ c.if-is_row.true) in
    (sym is, rw is (c.update_row.ensures.anew ∙ ap (λ (h : Holds). update_row c.args.least h c.args.s.now) c.into.ensures))

pub returns : goal.returns
unfolding updated
returns c = let is = (sym c.is_row.ensures ∙ c.if-is_row.false) in (sym is, rw is refl)
