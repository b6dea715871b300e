-- `points::velocities::take_at` meets its contract: the type of a value says that it is three f32. Assumes nothing.
use Rattle.std.proofs.Common.{sym, subst, arith, T}
use Rattle.points.specs.Apart.{Fit3}
use Rattle.points.proofs.velocities.take_at.Goals as goal

pub returns-then-i-v-clause-fit : goal.returns-then-i-v-clause-fit
returns-then-i-v-clause-fit c =
    let q = c.read.type_inv.1.1 in
    λ l. subst Fit3 c.read.ensures (record { x = subst T (sym q.0.1) tt; y = subst T (sym q.1.0.1) tt; z = subst T (sym q.1.1.0.1) tt })

pub returns-else-i-v-clause-fit : goal.returns-else-i-v-clause-fit
returns-else-i-v-clause-fit c = λ l. absurd (omega (arith, c.if-i-v.false))
