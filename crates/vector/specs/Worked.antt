-- Worked examples of vectors, matrices and quaternions. Assumes nothing.
use Rattle.std.specs.Prelude.{ℕ, refl, List, [], ◌∷◌, Float}
use Rattle.std.specs.Int.Count.{count_leading_zeros}
use Rattle.std.specs.Float.Ieee as ieee
use Rattle.std.specs.Float.{binary32}
use Rattle.std.specs.Float.Ieee.{of_bits, to_bits, is_nan}
use Rattle.loops.specs.Worked.{Row, ◌gives◌, Holds}
use Rattle.real.specs.Float.{f0, f1, f2, f4}
use Rattle.root.specs.Root.{root_of, root_bits, sig, power, near_root, floor_root, floor_from}
use Rattle.vector.specs.Vector.{dot, cross, length_of}
use Rattle.vector.specs.Matrix.{identity, determinant}
use Rattle.vector.specs.Quaternion.{normalise, to_matrix}
use Rattle.vector.specs.declared.Vec3.{Vec3}

abbrev vec : Float → Float → Float → Vec3
vec x y z = record { x = x; y = y; z = z }

abbrev bits : ℕ → Float
bits b = of_bits binary32 b

-- (2 ^ -24 + 1) - 1 is 0, since 2 ^ -24 is lost beside 1; x × y = z; (3, 4, 0) is 5 long; the identity's determinant is 1, and it is the matrix of (0, 0, 0, 2) normalised
abbrev pub worked : List Row
worked =
    (dot (vec (bits 0x33800000) f1 f1) (vec f1 f1 (bits 0xBF800000)) gives f0)
    ∷ (cross (vec f1 f0 f0) (vec f0 f1 f0) gives vec f0 f0 f1)
    ∷ (length_of (vec (bits 0x40400000) f4 f0) gives bits 0x40A00000)
    ∷ (determinant identity gives f1)
    ∷ (to_matrix (normalise (record { x = f0; y = f0; z = f0; w = f2 })) gives identity)
    ∷ []

pub holds : Holds worked
unfolding dot cross length_of determinant identity to_matrix normalise root_of root_bits sig power near_root floor_root floor_from count_leading_zeros is_nan to_bits of_bits ieee.of_fields ieee.add ieee.sub ieee.neg ieee.mul ieee.div ieee.sum ieee.round ieee.units ieee.odd ieee.span ieee.climb ieee.size
holds = (refl, (refl, (refl, (refl, (refl, tt)))))
