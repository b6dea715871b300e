-- `rows_ffi::of_row::rt_row_warm` meets its contract, by whether the bytes are a row's record. Assumes nothing.
use Rattle.std.proofs.Common.{refl, sym, ap, ◌∙◌, Some}
use Rattle.vector.specs.declared.Vec3.{Vec3}
use Rattle.vector.specs.declared.Four.{Four}
use Rattle.rows_ffi.specs.Mirrors.{lost_of}
use Rattle.rows_ffi.specs.Record.{warmed, warm_lost}
use Rattle.rows_ffi.proofs.Alone.{whole}
use Rattle.rows_ffi.proofs.of_row.rt_row_warm.Goals as goal

pub warm_row-requires : goal.warm_row-requires
warm_row-requires c = whole _ (sym c.is_row.ensures ∙ c.if-is_row.true)

pub returns-then-is_row : goal.returns-then-is_row
unfolding warmed warm_lost
returns-then-is_row c =
    let is = (sym c.is_row.ensures ∙ c.if-is_row.true) in
    (rw is (c.into.ensures ∙ ap (λ (x : Four Vec3). lost_of (Some x)) c.warm_row.ensures.loss), rw is c.warm_row.ensures.anew)

pub returns : goal.returns
unfolding warmed warm_lost
returns c = let is = (sym c.is_row.ensures ∙ c.if-is_row.false) in (rw is c.into-2.ensures, rw is refl)
