-- One batch more a turn. Assumes nothing.
use Rattle.std.proofs.Common.{rules, arith, length-append, [], ◌++◌, take}
use Rattle.std.proofs.KnownBytes.{Consumes-nil, Consumes-trans}
use Rattle.replay_frames.specs.Entries.{none}
use Rattle.replay_frames.proofs.Batches.{one_batch}
use Rattle.replay_frames.proofs.replay_all.Goals as goal

pub loop-init : goal.loop-init
loop-init g c = record { counted = none; few = omega arith; bytes = []; brought = Consumes-nil _; there = omega arith }

pub loop-preserved : goal.loop-preserved
loop-preserved g c =
    let so_far = c.loop.invariant in
    let batch = take c.read_full-n.result c.read_full-n.new.buf in
    let more = c.replay.ensures in
    let next = one_batch c.loop.tally c.replay.result c.add-tally.result so_far.counted more.counted (search rules) c.add-tally.ensures in
    record {
      counted = next.0;
      few = search rules;
      bytes = so_far.bytes ++ batch;
      brought = Consumes-trans _ _ _ _ _ so_far.brought c.read_full-n.ensures.bytes;
      there = omega (arith, next.1, so_far.there, more.all, length-append so_far.bytes batch);
    }

pub returns-then-n-lt-BATCH-clause-counted : goal.returns-then-n-lt-BATCH-clause-counted
returns-then-n-lt-BATCH-clause-counted g c =
    (one_batch c.loop.tally c.replay.result c.add-tally.result c.loop.invariant.counted c.replay.ensures.counted (search rules) c.add-tally.ensures).0
