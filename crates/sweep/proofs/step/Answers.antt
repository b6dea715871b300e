-- `sweep::step` meets its contract. Assumes nothing.
use Rattle.std.proofs.Common.{◌≡◌, ◌∙◌, ap, sym, subst, ℕ, ◌≤◌, List, length, arith}
use Rattle.little_endian.specs.Bytes.{le16}
use Rattle.stored.specs.Phases.{names_at}
use Rattle.row.specs.Widths.{row_length}
use Rattle.stored.specs.Points.{solve}
use Rattle.sweep.specs.Joined.{joined}
use Rattle.sweep.specs.Laid.{Stepped, is_passed}
use Rattle.sweep.proofs.Steps.{after, passed, gone, begin_stay}
use Rattle.sweep.proofs.Apart.{room_apart, record_apart, stood_anew}
use Rattle.sweep.proofs.step.Goals as goal

wide : {r s : List ℕ} → r ≡ s → row_length (le16 s 4) ≤ length s → row_length (le16 r 4) ≤ length r
wide e h = subst (λ (r : List ℕ). row_length (le16 r 4) ≤ length r) (sym e) h

pub record_at-requires : goal.record_at-requires
record_at-requires c = omega (arith, (room_apart _ _ c.requires).said)

pub invariant_of-b : goal.invariant_of-b
invariant_of-b c = record { wide = wide c.record_at.ensures.0 (room_apart _ _ c.requires).wide }

pub returns-then-is_passed : goal.returns-then-is_passed
returns-then-is_passed c =
    passed _ _ _ _ c.args.t (sym (c.is_passed.ensures ∙ ap (is_passed c.args.t) (c.record_at.ensures.0 ∙ record_apart _ _ c.requires)) ∙ c.if-is_passed.true)

pub solve-requires : goal.solve-requires
solve-requires c =
    stood_anew _ _ c.requires _ (c.names-names.ensures ∙ ap names_at c.record_at.ensures.0) _ (begin_stay _ c.args.t) _ _ c.begin.auto.v c.begin.ensures

pub returns : goal.returns
returns c =
    let z = subst (λ (k : ℕ). Stepped (solve k) k c.args.off c.args.len (joined c.begin.new.v c.begin.new.s) (joined c.solve.new.v c.solve.new.s)) c.begin.auto.v c.solve.ensures in
    gone _ _ _ _ _ c.args.t (sym (c.is_passed.ensures ∙ ap (is_passed c.args.t) (c.record_at.ensures.0 ∙ record_apart _ _ c.requires)) ∙ c.if-is_passed.false)
    (after _ _ _ _ _ _ _ _ c.begin.ensures z)
