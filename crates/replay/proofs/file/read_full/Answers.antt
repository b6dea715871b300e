-- One read more a turn. Assumes nothing.
use Rattle.replay.proofs.Filling.{put_by, one_more}
use Rattle.replay.proofs.file.read_full.Goals as goal

pub loop-done-preserved : goal.loop-done-preserved
loop-done-preserved g c =
    let so_far = c.loop-done.invariant in
    let put = rw (← c.unwrap_or-n.ensures) at (put_by _ _ _ _ c.read.ensures.bound c.read.ensures.bytes) in
    let more = one_more _ _ _ _ _ _ _ _ so_far.within put.0 so_far.brought put.1 in
    record { within = more.0; brought = more.1 }
