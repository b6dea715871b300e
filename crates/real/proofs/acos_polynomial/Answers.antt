-- `real::acos_polynomial` meets its contract: it is the definition. Assumes nothing.
use Rattle.std.specs.Prelude.{refl}
use Rattle.std.specs.Float.Ieee.{neg, of_bits}
use Rattle.real.specs.Acos.{acos_polynomial}
use Rattle.real.proofs.acos_polynomial.Goals as goal

pub returns : goal.returns
unfolding acos_polynomial neg of_bits
returns c = refl
