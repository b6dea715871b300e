-- `points::Points::point` meets its contract. Assumes nothing.
use Rattle.std.proofs.Common.{ap, ◌∙◌, ℕ, ◌+◌, ◌-◌, take, drop, length-drop, length-take, arith}
use Rattle.std.proofs.Math.Nat.{add-sub_cancel_left}
use Rattle.points.proofs.Points.point.Goals as goal

pub returns : goal.returns
returns c = (
  ap (λ (k : ℕ). take (k + 30 - k) (drop k c.args.self.frame.now)) c.place_of-off.ensures ∙ simp add-sub_cancel_left,
  simp (length-take, length-drop) (omega arith),
)
