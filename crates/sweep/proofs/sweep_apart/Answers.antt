-- `sweep::sweep_apart` meets its contract. Assumes nothing.
use Rattle.std.proofs.Common.{sym, subst, ◌∙◌, ℕ, length, arith}
use Rattle.sweep.specs.Joined.{joined}
use Rattle.sweep.specs.Laid.{Ready, Swept, Reswept}
use Rattle.sweep.specs.declared.Turn.TheVariants.{Main}
use Rattle.points.specs.Apart.{moved}
use Rattle.sweep.proofs.Apart.{ready_at}
use Rattle.sweep.proofs.Sweeps.{swept_ready}
use Rattle.sweep.proofs.Turns.{all_swept, ready_long}
use Rattle.sweep.proofs.sweep_apart.Goals as goal

pub gather-requires : goal.gather-requires
gather-requires c = (c.requires.0.few, ready_long _ _ _ c.requires.0)

pub sweep-requires : goal.sweep-requires
sweep-requires c = ready_at c.gather.auto.v _ _ (subst (Ready _ _) (sym (c.gather.ensures.same c.requires.1)) c.requires.0)

pub resweeps-requires : goal.resweeps-requires
resweeps-requires c =
    let y = ready_at c.gather.auto.v _ _ (subst (Ready _ _) (sym (c.gather.ensures.same c.requires.1)) c.requires.0) in
    subst (λ (m : ℕ). Ready m c.args.r (joined c.sweep.new.v c.sweep.new.s)) (sym c.sweep.auto.v) (swept_ready (Main c.args.p) _ _ _ _ y c.sweep.ensures)

pub scatter-requires : goal.scatter-requires
scatter-requires c = (omega (arith, c.requires.0.few), omega (arith, ready_long _ _ _ c.requires.0))

pub returns : goal.returns
returns c =
    let M₁ = joined c.sweep.new.v c.sweep.new.s in
    let M₂ = joined c.resweeps.new.v c.resweeps.new.s in
    all_swept c.args.p c.args.k (length c.args.v.now) c.args.r _ _ M₁ M₂ _ (c.gather.ensures.same c.requires.1)
    (subst (λ (m : ℕ). Swept (Main c.args.p) m c.args.r (moved m c.gather.new.v c.args.s.now) M₁) c.gather.auto.v c.sweep.ensures)
    (subst (λ (m : ℕ). Reswept c.args.k m c.args.r M₁ M₂) (c.sweep.auto.v ∙ c.gather.auto.v) c.resweeps.ensures)
    c.scatter.ensures
