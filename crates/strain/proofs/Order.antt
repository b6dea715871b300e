-- A sum of six products runs from the first to the last: another order gives another number. Assumes nothing.
use Rattle.std.specs.Prelude.{◌≡◌, refl, List, [], ◌∷◌, Float}
use Rattle.std.specs.Float.{binary32}
use Rattle.std.specs.Float.Ieee.{of_bits, add, mul}
use Rattle.real.specs.Float.{f0, f1}
use Rattle.strain.specs.Six.{dot6}

-- 2^24, the first whole number whose successor is no f32
abbrev large : Float
large = of_bits binary32 0x4b800000

abbrev ones : List Float
ones = f1 ∷ f1 ∷ f1 ∷ f1 ∷ f1 ∷ f1 ∷ []

-- each 1 that is added to 2^24 is lost; added to each other first, they are not
pub left_to_right : dot6 (large ∷ f1 ∷ f1 ∷ f0 ∷ f0 ∷ f0 ∷ []) ones ≡ large
unfolding dot6 add mul of_bits
left_to_right = refl

pub small_first : dot6 (f1 ∷ f1 ∷ large ∷ f0 ∷ f0 ∷ f0 ∷ []) ones ≡ of_bits binary32 0x4b800001
unfolding dot6 add mul of_bits
small_first = refl
