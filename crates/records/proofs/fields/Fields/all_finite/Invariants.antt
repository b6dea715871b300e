use Rattle.records.proofs.Finites.{Sofar}
use Rattle.records.proofs.fields.Fields.all_finite.Given as goal

abbrev pub invariant-loop-i : goal.invariant-loop-i
invariant-loop-i l = Sofar l.self.bytes.now l.k l.n l.i l.all
