-- The sine and cosine of half an angle, for `from_axis_angle`: by series at a 64th of it, and six doublings. Definitions only. Assumes nothing.
use Rattle.std.specs.Prelude.{Float}
use Rattle.std.specs.Float.{binary32}
use Rattle.std.specs.Float.Ieee.{of_bits}
use Rattle.real.specs.Float.{◌⊖◌, ◌⊗◌, ◌⊘◌, ◌⊙◌, f1, f2, f6, f½}
use Rattle.real.specs.declared.SinCos.{SinCos}

abbrev pub twelve : Float
twelve = of_bits binary32 0x41400000

abbrev pub twenty : Float
twenty = of_bits binary32 0x41a00000

abbrev pub sixty_four : Float
sixty_four = of_bits binary32 0x42800000

-- 6.2831855
abbrev pub full_turn : Float
full_turn = of_bits binary32 0x40c90fdb

-- x % 6.2831855
unfoldable pub rem_turn : Float → Float
rem_turn x = x ⊙ full_turn

-- s = t·(1 - u/6·(1 - u/20)) and c = 1 - u/2·(1 - u/12), with u = t·t
unfoldable pub sin_cos_small : Float → SinCos
sin_cos_small t =
    let u = t ⊗ t in
    record { s = t ⊗ (f1 ⊖ u ⊘ f6 ⊗ (f1 ⊖ u ⊘ twenty)); c = f1 ⊖ u ⊘ f2 ⊗ (f1 ⊖ u ⊘ twelve) }

-- (s, c) becomes (2·s·c, c·c - s·s)
unfoldable pub doubled : SinCos → SinCos
doubled a = record { s = f2 ⊗ a.s ⊗ a.c; c = a.c ⊗ a.c ⊖ a.s ⊗ a.s }

-- of w/2
unfoldable pub sin_cos : Float → SinCos
sin_cos w = doubled (doubled (doubled (doubled (doubled (doubled (sin_cos_small (rem_turn (w ⊗ f½) ⊘ sixty_four)))))))
