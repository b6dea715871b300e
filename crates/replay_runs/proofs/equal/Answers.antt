-- The library's test of two slices. Assumes nothing.
use Rattle.std.proofs.Common.{◌∙◌}
use Rattle.replay_runs.specs.Entries.{same_bytes}
use Rattle.replay_runs.proofs.equal.Goals as goal

pub returns : goal.returns
returns c = c.eq.ensures ∙ same_bytes c.args.a.now c.args.b.now
