use Rattle.frame.proofs.Scans.{Scanning}
use Rattle.frame.proofs.records_test.Given as goal

abbrev pub invariant-loop : goal.invariant-loop
invariant-loop l = Scanning l.due l.s l.k l.at l.counter l.off l.colour
