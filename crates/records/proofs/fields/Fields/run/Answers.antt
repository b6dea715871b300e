-- `records::fields::Fields::run` meets its contract: it stops at the first refusal of the run. Assumes nothing.
use Rattle.std.proofs.Common.{arith, rules}
use Rattle.records.proofs.Runs.{begins, again, refuses, ends}
use Rattle.records.proofs.fields.Fields.run.Goals as goal

pub loop-i-init : goal.loop-i-init
loop-i-init g c t h = begins t _ _ _

pub returns-in_err-test : goal.returns-in_err-test
returns-in_err-test g c t h = let e = refuses t _ _ _ (c.loop-i.invariant t h) c.loop-i-test.true (h _ _ (omega arith) c.test.ensures) c.in_err-test.was in search rules

pub loop-i-preserved : goal.loop-i-preserved
loop-i-preserved g c t h = again t _ _ _ (c.loop-i.invariant t h) c.loop-i-test.true (h _ _ (omega arith) c.test.ensures) c.in_ok-test.was

pub returns : goal.returns
returns g c t h = ends t _ _ _ (c.loop-i.invariant t h) c.loop-i-test.false
