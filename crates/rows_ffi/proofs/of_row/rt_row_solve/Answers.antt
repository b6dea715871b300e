-- `rows_ffi::of_row::rt_row_solve` meets its contract, by whether the bytes are a row's record. Assumes nothing.
use Rattle.std.proofs.Common.{refl, sym, ap, ◌∙◌, Some}
use Rattle.vector.specs.declared.Vec3.{Vec3}
use Rattle.vector.specs.declared.Four.{Four}
use Rattle.places.specs.Places.{Holds}
use Rattle.stored.specs.Phases.{solve_row, solve_loss}
use Rattle.rows_ffi.specs.Mirrors.{lost_of}
use Rattle.rows_ffi.specs.Record.{solved, solve_lost}
use Rattle.rows_ffi.proofs.Alone.{whole}
use Rattle.rows_ffi.proofs.of_row.rt_row_solve.Goals as goal

pub solve_row-requires : goal.solve_row-requires
solve_row-requires c = whole _ (sym c.is_row.ensures ∙ c.if-is_row.true)

pub returns-then-is_row : goal.returns-then-is_row
unfolding solved solve_lost
returns-then-is_row c =
    let is = (sym c.is_row.ensures ∙ c.if-is_row.true) in
    (rw is (c.into-then-is_row.ensures ∙ ap (λ (x : Four Vec3). lost_of (Some x)) (c.solve_row.ensures.loss ∙ ap (λ (h : Holds). solve_loss h c.args.s.now) c.into.ensures)), rw is (c.solve_row.ensures.anew ∙ ap (λ (h : Holds). solve_row h c.args.s.now) c.into.ensures))

pub returns : goal.returns
unfolding solved solve_lost
returns c = let is = (sym c.is_row.ensures ∙ c.if-is_row.false) in (rw is c.into-2.ensures, rw is refl)
