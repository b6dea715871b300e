-- Functions of one or two f32 that Rust has as methods, and the source's `inv`. Definitions only. Assumes nothing.
use Rattle.std.specs.Prelude.{Bool, false, cond, ◌&&◌, Float}
use Rattle.std.specs.Float.{nan, inf, fin, binary32}
use Rattle.std.specs.Float.Ieee.{is_nan, neg, lt, le, of_bits}
use Rattle.real.specs.Float.{◌⊘◌, f0, f1}

-- Rust's `abs`: the sign is cleared, and a NaN stays one
unfoldable pub abs : Float → Float
abs nan = nan
abs (inf s) = inf false
abs (fin s m e) = fin false m e

-- Rust's `signum`: 1 with the sign of x, a zero's too, and a NaN stays one. s is true below 0 and for -0.
unfoldable pub signum : Float → Float
signum nan = nan
signum (inf s) = cond s (neg f1) f1
signum (fin s m e) = cond s (neg f1) f1

-- b if a is a NaN; a if b is one, or a ≥ b; else b
unfoldable pub max : Float → Float → Float
max a b = cond (is_nan a) b (cond (is_nan b) a (cond (le b a) a b))

-- x or the bound that it is beyond, the lower bound first: Rust's `clamp`, which asks that lower ≤ upper
unfoldable pub clamp : Float → Float → Float → Float
clamp x lower upper =
    let y = cond (lt x lower) lower x in
    cond (lt upper y) upper y

-- 1.0e-20
abbrev pub inv_epsilon : Float
inv_epsilon = of_bits binary32 0x1e3ce508

-- -1.0e-20 ≤ x ≤ 1.0e-20
unfoldable pub is_tiny : Float → Bool
is_tiny x = le (neg inv_epsilon) x && le x inv_epsilon

-- 1 / x, and 0 where x is tiny
unfoldable pub inv : Float → Float
inv x = cond (is_tiny x) f0 (f1 ⊘ x)
