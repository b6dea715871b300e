-- `real::signum` meets its contract: past the first test x is a number, and its sign is its highest bit. Assumes nothing.
use Rattle.std.specs.Prelude.{◌≡◌, refl}
use Rattle.std.specs.Bool.{passes}
use Rattle.std.proofs.Common.{sym, ◌∙◌}
use Rattle.std.specs.Float.Ieee.{binary32, fits}
use Rattle.root.specs.Floats.{differs, is_nan_lem}
use Rattle.real.specs.Real.{signum}
use Rattle.real.specs.Sign.{by_sign_bit}
use Rattle.real.proofs.signum.Goals as goal

pub returns-then-is_nan : goal.returns-then-is_nan
unfolding signum
returns-then-is_nan c = rw (is_nan_lem c.args.x (differs c.args.x ∙ sym c.is_nan.ensures.value ∙ c.if-is_nan.true)) refl

pub returns : goal.returns
returns c =
    c.pick.ensures
    ∙ by_sign_bit c.args.x (passes (fits binary32 c.args.x) c.well_formed.0.1) (sym c.is_nan.ensures.value ∙ c.if-is_nan.false)
