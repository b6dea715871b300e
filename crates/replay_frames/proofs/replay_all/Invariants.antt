use Rattle.std.proofs.Common.{◌*◌, ◌≤◌, ℕ, List, length}
use Rattle.std.specs.Io.KnownBytes.{Consumes}
use Rattle.replay_frames.specs.Entries.{Counted}
use Rattle.replay_frames.proofs.replay_all.Given as goal

abbrev pub invariant-loop : goal.invariant-loop
invariant-loop g l = record {
  counted : Counted l.base l.tally.records l.tally.differ;
  few : l.tally.records ≤ 1024 * l.counter;
  bytes : List ℕ;
  brought : Consumes (g.R.Read.remaining l.initial.input) (g.R.Read.remaining l.input) bytes;
  there : 22 * l.tally.records ≤ length bytes;
}
