-- `rows_ffi::of_row::is_row` meets its contract. Assumes nothing.
use Rattle.std.proofs.Common.{arith, sym, ◌∙◌}
use Rattle.row.proofs.ByKind.{long_row}
use Rattle.rows_ffi.specs.Record.{is_row}
use Rattle.rows_ffi.proofs.Alone.{tests}
use Rattle.rows_ffi.proofs.of_row.is_row.Goals as goal

pub overflow_sub-b : goal.overflow_sub-b
overflow_sub-b c =
    let x = tests _ (sym c.is_record.ensures ∙ c.if-is_record.true) in
    omega (arith, x.0, long_row _ _ x.1)

pub all_written-requires : goal.all_written-requires
all_written-requires c =
    let x = tests _ (sym c.is_record.ensures ∙ c.if-is_record.true) in
    omega (arith, x.0, long_row _ _ x.1)

pub returns-then-is_record : goal.returns-then-is_record
unfolding is_row
returns-then-is_record c = rw (sym c.is_record.ensures ∙ c.if-is_record.true) c.all_written.ensures

pub returns-else-is_record : goal.returns-else-is_record
unfolding is_row
returns-else-is_record c = rw (sym c.is_record.ensures ∙ c.if-is_record.false) c.if-is_record.false
