-- One doubling a turn.
use Rattle.std.specs.Prelude.{◌≡◌, ◌*◌, ◌%◌, ◌^◌, ◌≤◌}
use Rattle.real.proofs.left_of.Given as goal

abbrev pub invariant-loop : goal.invariant-loop
invariant-loop l = (l.r ≡ l.n * 2 ^ l.counter % 13176795) × (l.counter ≤ l.k)
