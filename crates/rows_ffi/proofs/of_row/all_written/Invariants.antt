use Rattle.std.specs.Prelude.{◌+◌, ◌*◌, true, ◌&&◌}
use Rattle.loops.specs.Loops.{Ran}
use Rattle.little_endian.specs.Bytes.{le32}
use Rattle.rows_ffi.specs.Record.{is_written}
use Rattle.rows_ffi.proofs.of_row.all_written.Given as goal

abbrev pub invariant-loop-i : goal.invariant-loop-i
invariant-loop-i l = Ran l.n (λ j t. t && is_written (le32 l.b (30 + 4 * j))) true l.i l.all
