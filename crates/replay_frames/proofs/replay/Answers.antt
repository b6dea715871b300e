-- One entry is tried a turn. Assumes nothing.
use Rattle.std.proofs.Common.{rules, arith}
use Rattle.replay.specs.Tallies.{miss_few}
use Rattle.replay_frames.specs.Entries.{none, counted}
use Rattle.replay_frames.proofs.replay.Goals as goal

pub loop-entry-init : goal.loop-entry-init
loop-entry-init c = record { counted = none; few = search rules; passed = search rules; all = search rules }

pub loop-entry-preserved : goal.loop-entry-preserved
loop-entry-preserved c =
    let so_far = c.loop-entry.invariant in
    let next = c.count.ensures in
    record {
      counted = counted _ so_far.counted c.as_stored.ensures next.records next.differ;
      few = omega (arith, so_far.few, miss_few c.as_stored.result, next.records, next.differ);
      passed = omega (arith, so_far.passed, next.records);
      all = search rules;
    }
