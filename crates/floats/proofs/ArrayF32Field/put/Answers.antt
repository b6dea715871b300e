-- A list of floats put, one a turn. Assumes nothing.
use Rattle.std.proofs.Common.{rules, arith, refl}
use Rattle.loops.specs.Loops.{ran_none, ran_more, ran_all}
use Rattle.floats.specs.Fields.{put_floats}
use Rattle.floats.proofs.ArrayF32Field.put.Goals as goal

pub loop-i-init : goal.loop-i-init
loop-i-init g c = record { put = ran_none; long = refl; stays = λ h t w. w }

pub loop-i-preserved : goal.loop-i-preserved
loop-i-preserved g c =
    let i = c.loop-i.invariant in
    record {
      put = ran_more i.put (search rules) c.put.ensures.0;
      long = search rules;
      stays = λ h t w. c.put.ensures.1 (omega arith) (omega arith) (i.stays h t w);
    }

pub returns : goal.returns
unfolding put_floats
returns g c = (ran_all c.loop-i.invariant.put (search rules), c.loop-i.invariant.stays)
