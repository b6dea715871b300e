-- `floats::of_written` meets its contract. Of the patterns of a NaN it meets one alone. Assumes nothing.
use Rattle.std.proofs.Common.{sym}
use Rattle.std.specs.Float.Ieee.{div, of_bits}
use Rattle.floats.proofs.Written.{the_nan, no_nan}
use Rattle.floats.proofs.of_written.Goals as goal

pub returns-then-n-eq-NAN : goal.returns-then-n-eq-NAN
unfolding div of_bits
returns-then-n-eq-NAN c = sym (the_nan _ c.if-n-eq-NAN.true)

pub float_from_bits-result : goal.float_from_bits-result
float_from_bits-result c = no_nan _ c.requires c.if-n-eq-NAN.false
