-- `sweep::resweeps` meets its contract. Assumes nothing.
use Rattle.std.proofs.Common.{sym, subst, ℕ, length, arith}
use Rattle.points.specs.Apart.{moved}
use Rattle.sweep.specs.Joined.{joined}
use Rattle.sweep.specs.Laid.{Reswept}
use Rattle.sweep.specs.declared.Turn.TheVariants.{Resweep}
use Rattle.sweep.proofs.Apart.{ready_at, swept_at}
use Rattle.sweep.proofs.Turns.{again_begins, again_ready, again_again, again_ends}
use Rattle.sweep.proofs.resweeps.Goals as goal

pub loop-turn-init : goal.loop-turn-init
loop-turn-init c = again_begins _ _ _ _

pub sweep-requires : goal.sweep-requires
sweep-requires c = ready_at c.loop-turn.auto.v _ _ (again_ready _ _ _ _ _ _ c.loop-turn.invariant c.requires)

pub loop-turn-preserved : goal.loop-turn-preserved
loop-turn-preserved c =
    again_again _ _ _ _ _ _ c.loop-turn.invariant _ (omega arith) (swept_at c.loop-turn.auto.v c.sweep.auto.v Resweep _ _ _ _ c.sweep.ensures)

pub returns : goal.returns
returns c =
    subst (λ (m : ℕ). Reswept c.args.k (length c.args.v.now) c.args.r (joined c.args.v.now c.args.s.now) (moved m c.loop-turn.v c.loop-turn.s)) (sym c.loop-turn.auto.v)
    (again_ends _ _ _ _ _ _ c.loop-turn.invariant (omega arith))
