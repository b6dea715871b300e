-- Rust's operators on f32 under short names, and the constants of the arithmetic, each the nearest f32. Assumes nothing.
use Rattle.std.specs.Prelude.{ℕ, List, get_or, Float}
use Rattle.std.specs.Float.{nan, binary32}
use Rattle.std.specs.Float.Ieee.{add, sub, mul, div, rem, of_bits}

infixl 6 ◌⊕◌
infixl 6 ◌⊖◌
infixl 7 ◌⊗◌
infixl 7 ◌⊘◌
infixl 7 ◌⊙◌
abbrev pub ◌⊕◌ : Float → Float → Float
x ⊕ y = add binary32 x y

abbrev pub ◌⊖◌ : Float → Float → Float
x ⊖ y = sub binary32 x y

abbrev pub ◌⊗◌ : Float → Float → Float
x ⊗ y = mul binary32 x y

abbrev pub ◌⊘◌ : Float → Float → Float
x ⊘ y = div binary32 x y

-- Rust's %: exact, with the sign of x
abbrev pub ◌⊙◌ : Float → Float → Float
x ⊙ y = rem binary32 x y

-- element k of a list of floats
abbrev pub at : List Float → ℕ → Float
at l k = get_or l k nan

abbrev pub f0 : Float
f0 = of_bits binary32 0x00000000

abbrev pub f1 : Float
f1 = of_bits binary32 0x3f800000

abbrev pub f2 : Float
f2 = of_bits binary32 0x40000000

abbrev pub f4 : Float
f4 = of_bits binary32 0x40800000

abbrev pub f6 : Float
f6 = of_bits binary32 0x40c00000

abbrev pub f½ : Float
f½ = of_bits binary32 0x3f000000

abbrev pub f¼ : Float
f¼ = of_bits binary32 0x3e800000
