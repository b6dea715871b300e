-- The file's tally is added. Assumes nothing.
use Rattle.replay_arith.proofs.replayed.Replay.file.Goals as goal

pub returns : goal.returns
returns g c = record { bytes = _; tally = c.walk-tally.result; tallied = c.walk-tally.ensures _ c.requires.tells; added = c.add-self.ensures }
