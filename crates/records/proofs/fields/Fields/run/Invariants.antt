use Rattle.std.specs.Prelude.{ℕ, List}
use Rattle.records.specs.Answers.{Test}
use Rattle.records.specs.Outcomes.{Tests}
use Rattle.records.proofs.Runs.{Running}
use Rattle.records.proofs.fields.Fields.run.Given as goal

abbrev pub invariant-loop-i : goal.invariant-loop-i
invariant-loop-i g l = (t : ℕ → List Test) → Tests (goal.F-post g l.test) l.self.bytes.now l.self.start t → Running t l.self.start l.k l.n l.i
