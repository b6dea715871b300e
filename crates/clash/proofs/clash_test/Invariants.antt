use Rattle.clash.proofs.Turns.{Clashing}
use Rattle.clash.proofs.clash_test.Given as goal

abbrev pub invariant-loop : goal.invariant-loop
invariant-loop l = Clashing l.n l.s l.k l.at l.counter l.off l.marks
