use Rattle.std.proofs.Common.{◌≡◌, ◌/◌, ◌≤◌, length}
use Rattle.replay_frames.specs.Entries.{Counted}
use Rattle.replay_frames.proofs.replay.Given as goal

abbrev pub invariant-loop-entry : goal.invariant-loop-entry
invariant-loop-entry l = record {
  counted : Counted l.base l.tally.records l.tally.differ;
  few : l.tally.differ ≤ l.tally.records;
  passed : l.tally.records ≡ l.entry-index;
  all : length l.entry-items ≡ length l.entries / 22;
}
