-- The scalar row: update, warm start, solve and the test for strain, as soft_scalar_constraint.rs has them, and what `solve_color_constraint` does with one. Definitions only. Assumes nothing.
use Rattle.std.specs.Prelude.{ℕ, Bool, cond, ◌&&◌, eqb, ltb, Float}
use Rattle.std.specs.Float.Ieee.{lt}
use Rattle.real.specs.Float.{◌⊕◌, ◌⊖◌, ◌⊗◌, ◌⊘◌, f0}
use Rattle.real.specs.Real.{abs, max, clamp, inv}
use Rattle.vector.specs.Vector as v
use Rattle.vector.specs.declared.Vec3.{Vec3}
use Rattle.vector.specs.declared.Four.{Four}
use Rattle.places.specs.Places.{Holds, Masses, refreshed, rate_of}
use Rattle.places.specs.declared.Solved.{Solved}
use Rattle.gradients.specs.Gradients.{compute_gradients}
use Rattle.scalar.specs.declared.Spring.{Spring}
use Rattle.scalar.specs.declared.Response.{Response}
use Rattle.scalar.specs.declared.SoftScalarConstraint.{SoftScalarConstraint}

-- ---- update: the positions, the gradients, the effective mass and the bias

-- w += grad·(grad im), for the first `count` places
abbrev pub weigh : ℕ → ℕ → Vec3 → Float → Float → Float
weigh count k g im w = cond (ltb k count) (w ⊕ v.dot g (v.scale g im)) w

unfoldable pub weight_of : ℕ → Four Vec3 → Masses → Float
weight_of count grad im =
    weigh count 3 grad.d im.d (weigh count 2 grad.c im.c (weigh count 1 grad.b im.b (weigh count 0 grad.a im.a f0)))

-- w is the effective mass, e the row's error
unfoldable pub respond : Spring → Response → Float → Float → Response
respond p s w e =
    let gain = w ⊗ p.cfm_coeff in
    record { inv_lhs = inv (w ⊕ gain); cfm_gain = gain; rhs = e ⊗ p.erp_inv_dt; impulse = s.impulse; peak_impulse = s.peak_impulse }

unfoldable pub update : SoftScalarConstraint → Holds → SoftScalarConstraint
update r held =
    let pos = refreshed held r.pos in
    let g = compute_gradients r.kind pos r.grad r.spring.rest in
    record {
      kind = r.kind;
      count = r.count;
      pos = pos;
      im = r.im;
      grad = g.grad;
      spring = r.spring;
      response = respond r.spring r.response (weight_of r.count g.grad r.im) g.error;
    }

-- a distance row whose relative error, by its bias, is past the least strain; the other types never are
unfoldable pub is_strained : SoftScalarConstraint → Float → Bool
is_strained r least =
    eqb r.kind 0
    && lt f0 r.spring.erp_inv_dt
    && lt f0 r.spring.rest
    && lt (least ⊗ r.spring.rest) (abs (r.response.rhs ⊘ r.spring.erp_inv_dt))

-- ---- what an update, a warm start or a solve leaves as it was

abbrev pub with_response : SoftScalarConstraint → Response → SoftScalarConstraint
with_response r s = record { kind = r.kind; count = r.count; pos = r.pos; im = r.im; grad = r.grad; spring = r.spring; response = s }

abbrev pub with_impulse : SoftScalarConstraint → Float → SoftScalarConstraint
with_impulse r x =
    let s = r.response in
    with_response r (record { inv_lhs = s.inv_lhs; cfm_gain = s.cfm_gain; rhs = s.rhs; impulse = x; peak_impulse = s.peak_impulse })

-- ---- what each place is to lose for an impulse: (grad im) impulse

unfoldable pub losses : Four Vec3 → Masses → Float → Four Vec3
losses grad im impulse =
    record {
      a = v.scale (v.scale grad.a im.a) impulse;
      b = v.scale (v.scale grad.b im.b) impulse;
      c = v.scale (v.scale grad.c im.c) impulse;
      d = v.scale (v.scale grad.d im.d) impulse;
    }

-- ---- solve

-- the impulse that answers the rate and the bias, before it is held to its bounds
unfoldable pub sought_of : Response → Float → Float
sought_of s dc = s.impulse ⊕ s.inv_lhs ⊗ (dc ⊕ s.rhs ⊖ s.cfm_gain ⊗ s.impulse)

-- a NaN stays one
unfoldable pub total_of : Spring → Response → Float → Float
total_of p s dc = clamp (sought_of s dc) p.lower p.upper

unfoldable pub solve : SoftScalarConstraint → Holds → Solved SoftScalarConstraint
solve r vel =
    let total = total_of r.spring r.response (rate_of r.grad vel) in
    record { state = with_impulse r total; loss = losses r.grad r.im (total ⊖ r.response.impulse) }

-- ---- as `solve_color_constraint` calls them

-- a new substep begins: the impulse is the previous one's total
unfoldable pub with_peak : SoftScalarConstraint → SoftScalarConstraint
with_peak r =
    let s = r.response in
    with_response r (record { inv_lhs = s.inv_lhs; cfm_gain = s.cfm_gain; rhs = s.rhs; impulse = s.impulse; peak_impulse = max s.peak_impulse s.impulse })

-- the update of the main sweep: the peak first, from the impulse as it stood
unfoldable pub begin : SoftScalarConstraint → Holds → SoftScalarConstraint
begin r held = update (with_peak r) held

-- the warm start of the main sweep: the impulse times the coefficient, applied
unfoldable pub warmstart : SoftScalarConstraint → Float → Solved SoftScalarConstraint
warmstart r coeff =
    let impulse = r.response.impulse ⊗ coeff in
    record { state = with_impulse r impulse; loss = losses r.grad r.im impulse }
