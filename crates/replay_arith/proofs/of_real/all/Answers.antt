-- One file after another. Assumes nothing.
use Rattle.replay.specs.Tallies.{none, one}
use Rattle.replay_arith.proofs.of_real.all.Goals as goal

pub returns : goal.returns
returns g c =
    one c.file.ensures
    (one c.file-2.ensures
    (one c.file-3.ensures
    (one c.file-4.ensures
    (one c.file-5.ensures
    (one c.file-6.ensures
    (one c.file-7.ensures
    (one c.file-8.ensures
    (one c.file-9.ensures none))))))))
