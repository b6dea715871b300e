use Rattle.std.proofs.Common.{◌≡◌, ◌+◌, ◌*◌, length}
use Rattle.loops.specs.Loops.{Ran}
use Rattle.real.specs.Float.{at}
use Rattle.floats.specs.Fields.{put_f32}
use Rattle.floats.specs.Written.{Stays}
use Rattle.floats.proofs.ArrayF32Field.put.Given as goal

abbrev pub invariant-loop-i : goal.invariant-loop-i
invariant-loop-i g l =
    record {
      put : Ran g.row.N (λ j s. put_f32 s (l.k + 4 * j) (at l.fn.self j)) l.initial.b l.i l.b;
      long : length l.b ≡ length l.initial.b;
      stays : Stays l.k l.initial.b l.b;
    }
