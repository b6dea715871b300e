-- `records::record_test` meets its contract. Assumes nothing.
use Rattle.std.proofs.Common.{sym, ap, ◌∙◌}
use Rattle.little_endian.specs.Bytes.{le16}
use Rattle.records.proofs.Shapes.{shaped_of, kind_record}
use Rattle.records.proofs.record_test.Goals as goal

pub record_at-requires : goal.record_at-requires
record_at-requires c = (shaped_of _ _ _ c.shape.ensures.refusal c.in_ok-kind.was).whole

pub test-requires-clause-kind : goal.test-requires-clause-kind
test-requires-clause-kind c =
    c.in_ok-kind.ensures.kind.0 ∙ sym (kind_record (shaped_of _ _ _ c.shape.ensures.refusal c.in_ok-kind.was)) ∙ sym (ap (λ l. le16 l 4) c.record_at.ensures.0)
