use Rattle.inverse.specs.Pivot.{Best}
use Rattle.inverse.proofs.pivot_row.Given as goal

abbrev pub invariant-loop-i : goal.invariant-loop-i
invariant-loop-i l = Best l.m l.j l.i l.best l.most
