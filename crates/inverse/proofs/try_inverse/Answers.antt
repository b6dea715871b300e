-- `inverse::try_inverse` meets its contract. The factors are the definition's, and there is a law for each return. Assumes nothing.
use Rattle.std.specs.Prelude.{is_ok}
use Rattle.std.proofs.Common.{ap}
use Rattle.inverse.specs.Factors.{factor_all, inverse_none, inverse_some}
use Rattle.inverse.proofs.try_inverse.Goals as goal

pub returns-in-Ok : goal.returns-in-Ok
returns-in-Ok c = inverse_some _ (factor_all _ c.factor.ensures) (ap is_ok c.in-Ok.is) c.solve.ensures

pub returns-in-Err : goal.returns-in-Err
returns-in-Err c = inverse_none _ (factor_all _ c.factor.ensures) (ap is_ok c.in-Err.is)
