use Rattle.std.proofs.Common.{◌≡◌, ◌*◌, ◌≤◌, ℕ, Bool, List}
use Rattle.std.specs.Slice.Iter.{chunks_exact_rest, chunks_exact_size}
use Rattle.replay.specs.Tallies.{Behind, Walked}
use Rattle.replay_arith.specs.Agrees.{Tells}
use Rattle.replay_arith.proofs.replayed.walk.Given as goal

abbrev pub invariant-loop-bytes : goal.invariant-loop-bytes
invariant-loop-bytes g l = record {
  can : (goal.iterator-loop-bytes g).can_next l.bytes-iterator;
  finite : (goal.iterator-loop-bytes g).is_finite l.bytes-iterator;
  size : chunks_exact_size l.bytes-iterator ≡ 4 * l.size;
  behind : Behind l.s (4 * l.size) l.tally.records (chunks_exact_rest l.bytes-iterator);
  few : l.tally.differ ≤ l.tally.records;
  walked : (told : List ℕ → Bool) → Tells g.F.Fn l.fn.agrees told → Walked told l.s l.size l.tally.records l.tally;
}
