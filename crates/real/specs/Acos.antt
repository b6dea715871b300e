-- The arc cosine by Abramowitz and Stegun 4.4.46. Definitions only. Assumes nothing.
use Rattle.std.specs.Prelude.{cond, Float}
use Rattle.std.specs.Float.{binary32}
use Rattle.std.specs.Float.Ieee.{neg, le, of_bits}
use Rattle.root.specs.Root.{root_of}
use Rattle.real.specs.Float.{◌⊕◌, ◌⊖◌, ◌⊗◌, f0, f1}

-- 1.5707963050
abbrev pub c0 : Float
c0 = of_bits binary32 0x3fc90fda

-- -0.2145988016
abbrev pub c1 : Float
c1 = of_bits binary32 0xbe5bbfca

-- 0.0889789874
abbrev pub c2 : Float
c2 = of_bits binary32 0x3db63a9e

-- -0.0501743046
abbrev pub c3 : Float
c3 = of_bits binary32 0xbd4d8392

-- 0.0308918810
abbrev pub c4 : Float
c4 = of_bits binary32 0x3cfd10f8

-- -0.0170881256
abbrev pub c5 : Float
c5 = of_bits binary32 0xbc8bfc66

-- 0.0066700901
abbrev pub c6 : Float
c6 = of_bits binary32 0x3bda90c5

-- -0.0012624911
abbrev pub c7 : Float
c7 = of_bits binary32 0xbaa57a2c

-- 3.1415927
abbrev pub pi : Float
pi = of_bits binary32 0x40490fdb

-- the polynomial by Horner: c7, then times d and plus the next coefficient, down to c0
unfoldable pub acos_polynomial : Float → Float
acos_polynomial d =
    ((((((c7 ⊗ d ⊕ c6) ⊗ d ⊕ c5) ⊗ d ⊕ c4) ⊗ d ⊕ c3) ⊗ d ⊕ c2) ⊗ d ⊕ c1) ⊗ d ⊕ c0

-- for d ≥ 0
unfoldable pub acos_up : Float → Float
acos_up d = root_of (f1 ⊖ d) ⊗ acos_polynomial d

-- below 0 it is 3.1415927 less that of -d, and so is a NaN, which stays one
unfoldable pub acos : Float → Float
acos d = cond (le f0 d) (acos_up d) (pi ⊖ acos_up (neg d))
