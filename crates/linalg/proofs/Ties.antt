-- The sweeps stop where what is off the diagonal is at the limit itself. Assumes nothing.
use Rattle.std.specs.Prelude.{◌≡◌, refl, Bool, true, false, ◌||◌, [], ◌∷◌, Float}
use Rattle.std.proofs.Common.{ap, ◌∙◌}
use Rattle.std.specs.Float.{binary32}
use Rattle.std.specs.Float.Ieee.{of_bits, add, mul, lt, le, eq}
use Rattle.real.specs.Float.{◌⊗◌, f0, f1}
use Rattle.linalg.specs.Eigen.{Rows, off, diag, tolerance, settled}

-- ones on the diagonal, and x beside it
abbrev beside : Float → Rows
beside x = (f1 ∷ x ∷ f0 ∷ []) ∷ (x ∷ f1 ∷ f0 ∷ []) ∷ (f0 ∷ f0 ∷ f1 ∷ []) ∷ []

-- the square of this x, and 1.0e-8 times 3, are the same f32
pub a_tie : eq (off (beside (of_bits binary32 0x39359e62))) (tolerance ⊗ diag (beside (of_bits binary32 0x39359e62))) ≡ true
unfolding add mul eq of_bits
a_tie = refl

pub a_tie_settles : settled (beside (of_bits binary32 0x39359e62)) ≡ true
unfolding add mul le lt eq of_bits
a_tie_settles = refl

-- the next f32 up
pub above_does_not : settled (beside (of_bits binary32 0x39359e63)) ≡ false
unfolding add mul le lt eq of_bits
above_does_not = refl

or_true : (b : Bool) → (b || true) ≡ true
or_true true = refl
or_true false = refl

-- every tie settles, the zeros' too
pub ties_settle : (a : Rows) → eq (off a) (tolerance ⊗ diag a) ≡ true → settled a ≡ true
unfolding le
ties_settle a h = ap (λ (b : Bool). lt (off a) (tolerance ⊗ diag a) || b) h ∙ or_true (lt (off a) (tolerance ⊗ diag a))
