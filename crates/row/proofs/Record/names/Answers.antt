-- `row::Record::names` meets its contract, by the kind. Assumes nothing.
use Rattle.std.proofs.Common.{◌≡◌, ◌∙◌, ◌⊎◌, inl, inr, ℕ, List, arith}
use Rattle.little_endian.specs.Bytes.{le16}
use Rattle.records.specs.Kinds.{row_kind}
use Rattle.records.specs.declared.kinds.RowKind.{RowKind}
use Rattle.records.specs.declared.kinds.RowKind.TheVariants.{Scalar, Corotational, NeoHookean}
use Rattle.floats.specs.Fields.{ids_at}
use Rattle.stored.specs.Phases.{counted_ids, names_at}
use Rattle.row.proofs.ByKind.{long_row, names_of_kind}
use Rattle.row.proofs.Record.names.Goals as goal

pub ids_at-i-requires : goal.ids_at-i-requires
ids_at-i-requires c = omega (arith, long_row _ _ c.args.self.wide)

pub of-requires : goal.of-requires
of-requires c = omega (arith, long_row _ _ c.args.self.wide)

pub get_u16-requires : goal.get_u16-requires
get_u16-requires c = omega (arith, long_row _ _ c.args.self.wide)

pub returns-in-Scalar : goal.returns-in-Scalar
returns-in-Scalar c = c.counted_ids.ensures ∙ (λ j. counted_ids (c.get_u16.ensures j) (c.ids_at-i.ensures j)) ∙ names_of_kind _ c.of.ensures Scalar c.in-Scalar.is

other : (b : List ℕ) {kind : RowKind} → kind ≡ row_kind (le16 b 4) → (kind ≡ Corotational) ⊎ (kind ≡ NeoHookean) → ids_at b 14 ≡ names_at b
other b e (inl h) = names_of_kind b e Corotational h
other b e (inr h) = names_of_kind b e NeoHookean h

pub returns-in-Corotational : goal.returns-in-Corotational
returns-in-Corotational c = c.ids_at-i.ensures ∙ other _ c.of.ensures c.in-Corotational.is
