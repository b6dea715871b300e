-- A cap is raised to 1 where the cell is not inverted, and nowhere else. Assumes nothing.
use Rattle.std.specs.Prelude.{◌≡◌, refl, true, false, Float}
use Rattle.std.specs.Float.{binary32}
use Rattle.std.specs.Float.Ieee.{of_bits, neg, lt, le, eq, is_nan}
use Rattle.real.specs.Float.{f1, f2}
use Rattle.real.specs.Real.{max, clamp}
use Rattle.cell.specs.Cell.{cap_of, capped}

pub stays : (cap : Float) → cap_of true cap ≡ cap
stays cap = refl

pub raised : (cap : Float) → cap_of false cap ≡ max cap f1
raised cap = refl

abbrev half : Float
half = of_bits binary32 0x3f000000

-- a strain of 2 with a cap of 0.5
pub in_an_inverted_cell : capped true f2 half ≡ half
unfolding capped clamp max is_nan neg le lt eq of_bits
in_an_inverted_cell = refl

pub in_another : capped false f2 half ≡ f1
unfolding capped clamp max is_nan neg le lt eq of_bits
in_another = refl
