-- One entry is tried a turn. Assumes nothing.
use Rattle.std.proofs.Common.{rules, arith}
use Rattle.replay.specs.Tallies.{miss_few}
use Rattle.replay_runs.specs.Entries.{none, counted}
use Rattle.replay_runs.proofs.replay.Goals as goal

pub loop-init : goal.loop-init
loop-init g c = record { counted = none; few = search rules; passed = search rules }

pub loop-preserved : goal.loop-preserved
loop-preserved g c =
    let so_far = c.loop.invariant in
    let next = c.count.ensures in
    record {
      counted = counted _ _ _ _ so_far.counted c.as_stored.ensures next.records next.differ;
      few = omega (arith, so_far.few, miss_few c.as_stored.result, next.records, next.differ);
      passed = omega (arith, so_far.passed, next.records);
    }
