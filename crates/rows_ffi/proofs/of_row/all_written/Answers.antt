-- `rows_ffi::of_row::all_written` meets its contract: one float a turn. Assumes nothing.
use Rattle.std.proofs.Common.{◌∙◌, ap, Bool, ◌&&◌, rules}
use Rattle.loops.specs.Loops.{ran_none, ran_more, ran_all}
use Rattle.rows_ffi.specs.Record.{is_written, all_written}
use Rattle.rows_ffi.proofs.of_row.all_written.Goals as goal

pub loop-i-init : goal.loop-i-init
loop-i-init c = ran_none

pub loop-i-preserved : goal.loop-i-preserved
loop-i-preserved c =
    ran_more c.loop-i.invariant (search rules)
    (ap (λ (t : Bool). c.loop-i.all && t) (c.is_written-all.ensures ∙ ap is_written c.get_u32.ensures))

pub returns : goal.returns
unfolding all_written
returns c = ran_all c.loop-i.invariant (search rules)
