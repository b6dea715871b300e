-- `sweep::sweep` meets its contract. Assumes nothing.
use Rattle.std.proofs.Common.{sym, subst, ℕ, length, arith}
use Rattle.points.specs.Apart.{moved}
use Rattle.sweep.specs.Joined.{joined}
use Rattle.sweep.specs.Laid.{Swept}
use Rattle.sweep.proofs.Apart.{turn_room, turn_long, turn_scalar, turn_says, standing_at, stepped_at}
use Rattle.sweep.proofs.Sweeps.{going_begins, going_stands, going_again, going_ends}
use Rattle.sweep.proofs.sweep.Goals as goal

pub loop-row-init : goal.loop-row-init
loop-row-init c = going_begins _ _ _ _

pub row_at-len-requires : goal.row_at-len-requires
row_at-len-requires c =
    let i = c.loop-row.invariant in
    let room = turn_room _ _ _ _ _ _ _ _ i c.requires (omega arith) in
    let long = turn_long _ _ _ _ _ _ _ _ i c.requires (omega arith) in
    record { kind = omega (arith, room, long); whole = room; scalar = turn_scalar _ _ _ _ _ _ _ _ i c.requires (omega arith) }

pub step-requires : goal.step-requires
step-requires c =
    let i = c.loop-row.invariant in
    standing_at c.loop-row.auto.v _ _ (going_stands _ _ _ _ _ _ _ i c.requires (omega arith) _ (turn_says _ _ _ _ _ _ _ _ i c.requires (omega arith) _ c.row_at-len.ensures.1))

pub loop-row-preserved : goal.loop-row-preserved
loop-row-preserved c =
    let i = c.loop-row.invariant in
    going_again _ _ _ _ _ _ _ i (omega arith) _ _ (turn_says _ _ _ _ _ _ _ _ i c.requires (omega arith) _ c.row_at-len.ensures.1)
    (stepped_at c.loop-row.auto.v c.step.auto.v _ _ _ _ _ c.step.ensures)

pub returns : goal.returns
returns c =
    subst (λ (k : ℕ). Swept c.args.t (length c.args.v.now) c.args.r (joined c.args.v.now c.args.s.now) (moved k c.loop-row.v c.loop-row.s)) (sym c.loop-row.auto.v)
    (going_ends _ _ _ _ _ _ _ c.loop-row.invariant (omega arith))
