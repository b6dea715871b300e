-- `frame::check` meets its contract. Assumes nothing.
use Rattle.std.proofs.Common.{arith, ◌∙◌, sym}
use Rattle.records.proofs.Firsts.{outcome_passed}
use Rattle.frame.proofs.Answered.{passed_of, head_long, few_points}
use Rattle.frame.proofs.check.Goals as goal

pub invariant_of-head : goal.invariant_of-head
invariant_of-head c = record { long = head_long _ (outcome_passed _ (sym c.record_test.ensures ∙ c.in_ok-record_test.was)) }

pub records_test-requires : goal.records_test-requires
records_test-requires c = head_long _ (outcome_passed _ (sym c.record_test.ensures ∙ c.in_ok-record_test.was))

pub clash_test-requires : goal.clash_test-requires
clash_test-requires c = (
  omega (arith, few_points _ (outcome_passed _ (sym c.record_test.ensures ∙ c.in_ok-record_test.was)), c.points-n.ensures),
  passed_of _ c.records_test-2.ensures.refusal c.in_ok-end.was,
)
