use Rattle.std.proofs.Common.{◌≤◌}
use Rattle.replay_runs.specs.Entries.{Counted}
use Rattle.replay_runs.proofs.replay.Given as goal

abbrev pub invariant-loop : goal.invariant-loop
invariant-loop g l = record {
  counted : Counted l.tally.records l.tally.differ;
  few : l.tally.differ ≤ l.tally.records;
  passed : l.tally.records ≤ l.counter;
}
