-- `frame::records_test` meets its contract. Assumes nothing.
use Rattle.std.proofs.Common.{arith, rules}
use Rattle.frame.proofs.Scans.{begins, whole, long, colour_found, refuses, again, all_passed, ends}
use Rattle.frame.proofs.records_test.Goals as goal

pub loop-init : goal.loop-init
loop-init c = begins _ _ _ _ (omega arith)

pub returns-in_err-record_test-clause-refusal : goal.returns-in_err-record_test-clause-refusal
returns-in_err-record_test-clause-refusal c = let e = refuses c.loop.invariant c.loop-test.true c.record_test.ensures _ c.in_err-record_test.was in search rules

pub record_at-b-requires : goal.record_at-b-requires
record_at-b-requires c = whole _ _ _ _ c.record_test.ensures c.in_ok-record_test.was

pub get_u16-colour-requires : goal.get_u16-colour-requires
get_u16-colour-requires c = omega (arith, c.record_at-b.ensures.1, long _ _ _ _ c.record_test.ensures c.in_ok-record_test.was)

pub loop-preserved : goal.loop-preserved
loop-preserved c =
    again c.loop.invariant c.loop-test.true c.record_test.ensures _ _ _ c.in_ok-record_test.was (omega (arith, c.record_at-b.ensures.1))
    (colour_found _ _ _ _ c.record_test.ensures c.in_ok-record_test.was c.get_u16-colour.ensures c.record_at-b.ensures.0)

pub returns-clause-refusal : goal.returns-clause-refusal
returns-clause-refusal c = all_passed c.loop.invariant c.loop-test.false

pub returns-clause-end : goal.returns-clause-end
returns-clause-end c = (ends c.loop.invariant c.loop-test.false, c.loop.invariant.inside)
