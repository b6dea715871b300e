-- `rows_ffi::of_row::is_record` meets its contract, by whether a row's kind can be read. Assumes nothing.
use Rattle.std.proofs.Common.{◌≡◌, rules, ◌∙◌, sym, ◌+◌, length, eqb, true, false}
use denote.Enum.Bare.{same_true}
use Rattle.records.specs.contracts.Due.{the_type}
use Rattle.records.specs.Kinds.{number_of_kind, due_as}
use Rattle.records.specs.declared.Due.TheVariants as due
use Rattle.little_endian.specs.Bytes.{le16}
use Rattle.std.proofs.lemmas.Bool.{false≢true}
use Rattle.rows_ffi.proofs.Alone.{short, of_kind, of_no_kind, of_no_row}
use Rattle.rows_ffi.proofs.of_row.is_record.Goals as goal
use Rattle.rows_ffi.proofs.of_row.is_record.Goals.{then-eq, else-eq}

pub returns-then-b-lt6 : goal.returns-then-b-lt6
returns-then-b-lt6 c = short _ c.if-b-lt6.true

pub returns-in_default : goal.returns-in_default
returns-in_default c = of_no_kind c.args.b.now (λ k h. c.in_default.ensures.1 k (h ∙ sym c.get_u16.ensures))

pub returns-then-n-b : goal.returns-then-n-b
returns-then-n-b c =
    elim c.if-eq.branch [
      | then-eq w ↦ (
          let number : number_of_kind c.in-Ok.kind ≡ le16 c.args.b.now 4 = c.in-Ok.ensures ∙ c.get_u16.ensures in
          let row : due_as c.in-Ok.kind ≡ due.Row = sym c.due.ensures ∙ same_true the_type (search rules) _ _ (sym c.eq.ensures ∙ w.if-eq.true) in
          let long : eqb (4 + c.get_u32-n.result) (length c.args.b.now) ≡ true = sym w.value-is ∙ c.if-n-b.true in
          let is = of_kind c.args.b.now c.in-Ok.kind c.if-b-lt6.false number row in
          rw (c.length.ensures) (rw (← c.get_u32-n.ensures, long) at is))
      | else-eq w ↦ absurd (false≢true (sym w.if-eq.false ∙ sym w.value-is ∙ c.if-n-b.true))
    ]

pub returns-else-n-b : goal.returns-else-n-b
returns-else-n-b c =
    let number : number_of_kind c.in-Ok.kind ≡ le16 c.args.b.now 4 = c.in-Ok.ensures ∙ c.get_u16.ensures in
    c.if-n-b.false ∙ elim c.if-eq.branch [
      | then-eq w ↦ (
          let row : due_as c.in-Ok.kind ≡ due.Row = sym c.due.ensures ∙ same_true the_type (search rules) _ _ (sym c.eq.ensures ∙ w.if-eq.true) in
          let long : eqb (4 + c.get_u32-n.result) (length c.args.b.now) ≡ false = sym w.value-is ∙ c.if-n-b.false in
          let is = of_kind c.args.b.now c.in-Ok.kind c.if-b-lt6.false number row in
          rw (← c.get_u32-n.ensures, long) at is)
      | else-eq w ↦ of_no_row c.args.b.now c.in-Ok.kind number (λ e. absurd (false≢true (sym w.if-eq.false ∙ c.eq.ensures ∙ search (rules, e))))
    ]
