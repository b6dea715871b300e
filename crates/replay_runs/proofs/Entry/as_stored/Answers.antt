-- Its calls are the definition's. Assumes nothing.
use Rattle.std.proofs.Common.{refl}
use Rattle.replay_runs.specs.Entries.{as_stored}
use Rattle.replay_runs.proofs.Entry.as_stored.Goals as goal

pub returns : goal.returns
unfolding as_stored
returns c =
    rw (
      c.equal.ensures,
      c.eq-2.ensures,
      c.eq.ensures,
      c.from-returned.ensures,
      c.from-checked.ensures,
      c.run.ensures.0,
      c.run.ensures.1,
      c.check.ensures,
    )
    refl
