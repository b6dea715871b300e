-- `clash::clash_test` meets its contract. The marks say which points the rows so far name, and in which colour. Assumes nothing.
use Rattle.std.proofs.Common.{arith}
use Rattle.clash.proofs.Turns.{begins, whole, long, refuses, again, ends}
use Rattle.clash.proofs.clash_test.Goals as goal

pub loop-init : goal.loop-init
loop-init c = begins _ _ _ _ (omega arith) c.requires.1

pub record_at-b-requires : goal.record_at-b-requires
record_at-b-requires c = whole c.loop.invariant c.loop-test.true

pub names_of-q-requires : goal.names_of-q-requires
names_of-q-requires c = omega (arith, long c.loop.invariant c.loop-test.true, c.record_at-b.ensures.1)

pub returns-in_err-refuse : goal.returns-in_err-refuse
returns-in_err-refuse c =
    let e = refuses c.loop.invariant c.loop-test.true (λ k. omega (arith, c.type_inv.s k)) _ c.record_at-b.ensures.0 _ c.names_of-q.ensures _ c.is_clashing.ensures _ c.refuse.ensures _ c.in_err-refuse.was in
    grind arith

pub loop-preserved : goal.loop-preserved
loop-preserved c =
    again c.loop.invariant c.loop-test.true (λ k. omega (arith, c.type_inv.s k)) _ c.record_at-b.ensures.0 _ c.names_of-q.ensures _ c.is_clashing.ensures _ c.refuse.ensures
    _ _ _ c.in_ok-refuse.was c.mark_row.ensures (omega (arith, c.record_at-b.ensures.1))

pub returns : goal.returns
returns c = ends c.loop.invariant c.loop-test.false
