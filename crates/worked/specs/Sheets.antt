-- The frames of the worked examples, as bytes. Definitions only. Assumes nothing.
use Rattle.std.specs.Prelude.{ℕ, List, ◌++◌, replicate}
use Rattle.little_endian.specs.Bytes.{bytes2, bytes4}

abbrev zeros : ℕ → List ℕ
zeros n = replicate n 0

-- bits of 1, and of minus infinity
abbrev one : ℕ
one = 0x3f800000

abbrev minus_infinity : ℕ
minus_infinity = 0xff800000

-- a head: N, R, the mode, no resweeps, both floats 0
abbrev pub head_of : ℕ → ℕ → ℕ → List ℕ
head_of n r mode = bytes4 22 ++ (bytes2 1 ++ (bytes4 n ++ (bytes4 r ++ (bytes2 mode ++ zeros 10))))

-- a point at rest at (x, 0, 0), x by its bits
abbrev point_at : ℕ → List ℕ
point_at x = bytes4 26 ++ (bytes2 2 ++ (bytes4 x ++ zeros 20))

-- a distance row of that colour, with count 2, the ids 0 and b, and every `im` 1; `rest` and `erp_inv_dt` and the impulse's bounds are given by their bits, all else is 0
abbrev distance_row : ℕ → ℕ → ℕ → ℕ → ℕ → ℕ → List ℕ
distance_row colour b rest erp lower upper =
    bytes4 178
    ++ (bytes2 3
    ++ (bytes2 colour
    ++ (bytes2 0
    ++ (bytes2 0
    ++ (bytes2 2
    ++ (bytes4 0
    ++ (bytes4 b
    ++ (zeros 8
    ++ (zeros 48
    ++ (bytes4 one ++ (bytes4 one ++ (bytes4 one ++ (bytes4 one ++ (zeros 48 ++ (bytes4 rest ++ (bytes4 erp ++ (zeros 24 ++ (bytes4 lower ++ bytes4 upper))))))))))))))))))

-- mode 1, no resweeps, points (0, 0, 0) and (x, 0, 0) at rest; `rest` 1, `erp_inv_dt` 1, and no lower bound
abbrev pub stretched : ℕ → ℕ → List ℕ
stretched x upper = head_of 2 1 1 ++ (point_at 0 ++ (point_at x ++ distance_row 65535 1 one one minus_infinity upper))

-- two rows of one colour that share point 0
abbrev pub sharing : ℕ → List ℕ
sharing colour = head_of 3 2 0 ++ (point_at 0 ++ (point_at 0 ++ (point_at 0 ++ (distance_row colour 1 0 0 0 0 ++ distance_row colour 2 0 0 0 0))))
