-- Frames by which demand 3 is neither empty nor too weak. Definitions only. Assumes nothing.
use Rattle.std.specs.Prelude.{ℕ, zero, suc, List, [], ◌∷◌, ◌++◌, replicate}
use Rattle.little_endian.specs.Bytes.{bytes2, bytes4}
use Rattle.records.specs.Records.{flatten}

abbrev zeros : ℕ → List ℕ
zeros n = replicate n 0

-- bits of 2, 1, -1, some halves and quarters, and the infinities
abbrev two : ℕ
two = 0x40000000

abbrev one : ℕ
one = 0x3f800000

abbrev minus_one : ℕ
minus_one = 0xbf800000

abbrev pub half : ℕ
half = 0x3f000000

abbrev pub quarter : ℕ
quarter = 0x3e800000

abbrev pub three_quarters : ℕ
three_quarters = 0x3f400000

abbrev pub seven_eighths : ℕ
seven_eighths = 0x3f600000

abbrev infinity : ℕ
infinity = 0x7f800000

abbrev minus_infinity : ℕ
minus_infinity = 0xff800000

-- a head: N, R, mode 0, no resweeps, both floats 0
abbrev head_of : ℕ → ℕ → List ℕ
head_of n r = bytes4 22 ++ (bytes2 1 ++ (bytes4 n ++ (bytes4 r ++ zeros 12)))

-- a point at the origin, whose velocity along x has these bits
abbrev pub point_of : ℕ → List ℕ
point_of x = bytes4 26 ++ (bytes2 2 ++ (zeros 12 ++ (bytes4 x ++ zeros 8)))

-- a distance row of that colour between the points a and b, updated already: gradients 1 and -1 along x, every `im` 1, `inv_lhs` a half, impulse 0, infinite bounds. Its solve leaves both points the mean of their velocities along x
abbrev distance_row : ℕ → ℕ → ℕ → List ℕ
distance_row colour a b =
    bytes4 178
    ++ (bytes2 3
    ++ (bytes2 colour
    ++ (bytes2 0
    ++ (bytes2 0
    ++ (bytes2 2
    ++ (bytes4 a
    ++ (bytes4 b
    ++ (zeros 56
    ++ (bytes4 one ++ (bytes4 one ++ (bytes4 one ++ (bytes4 one
    ++ (bytes4 one ++ (zeros 8 ++ (bytes4 minus_one ++ (zeros 32
    ++ (zeros 12 ++ (bytes4 half ++ (zeros 16 ++ (bytes4 minus_infinity ++ bytes4 infinity))))))))))))))))))))

-- a corotational row of that colour that names the points a and b, and twice a point that is not there. Only its volumetric part is not 0, and does what the distance row does
abbrev cell_row : ℕ → ℕ → ℕ → List ℕ
cell_row colour a b =
    bytes4 614
    ++ (bytes2 4
    ++ (bytes2 colour
    ++ (zeros 6
    ++ (bytes4 a
    ++ (bytes4 b
    ++ (bytes4 9
    ++ (bytes4 9
    ++ (zeros 48
    ++ (bytes4 one ++ (bytes4 one ++ (zeros 8
    ++ (zeros 416 ++ (bytes4 one ++ (zeros 8 ++ (bytes4 minus_one ++ (zeros 32 ++ (zeros 56 ++ bytes4 half)))))))))))))))))

-- ---- a frame, and a proper relisting of it: two rows of colour 0, of two kinds and lengths, change places; two overflow rows that share point 0 stay

abbrev pub r0 : List ℕ
r0 = distance_row 0 0 1

abbrev pub r1 : List ℕ
r1 = cell_row 0 2 3

abbrev pub r2 : List ℕ
r2 = distance_row 65535 0 2

abbrev pub r3 : List ℕ
r3 = distance_row 65535 0 3

abbrev four_points : List ℕ
four_points = head_of 4 4 ++ (point_of one ++ (point_of 0 ++ (point_of two ++ point_of 0)))

abbrev pub A₀ : List ℕ
A₀ = four_points ++ flatten (r0 ∷ r1 ∷ r2 ∷ r3 ∷ [])

abbrev pub B₀ : List ℕ
B₀ = four_points ++ flatten (r1 ∷ r0 ∷ r2 ∷ r3 ∷ [])

-- the rows 0 and 1 change places
abbrev pub turn : ℕ → ℕ
turn zero = 1
turn (suc zero) = 0
turn (suc (suc n)) = suc (suc n)

-- ---- a frame with two overflow rows that share point 0, and the same rows exchanged: no relisting

abbrev pub s0 : List ℕ
s0 = distance_row 65535 0 1

abbrev pub s1 : List ℕ
s1 = distance_row 65535 0 2

abbrev three_points : List ℕ
three_points = head_of 3 2 ++ (point_of one ++ (point_of 0 ++ point_of 0))

abbrev pub A₁ : List ℕ
A₁ = three_points ++ flatten (s0 ∷ s1 ∷ [])

abbrev pub B₁ : List ℕ
B₁ = three_points ++ flatten (s1 ∷ s0 ∷ [])
