-- Worked examples of rotations and cells. Assumes nothing.
use Rattle.std.specs.Prelude.{ℕ, refl, List, [], ◌∷◌, Float}
use Rattle.std.specs.Float.Ieee as ieee
use Rattle.std.specs.Float.{binary32}
use Rattle.std.specs.Float.Ieee.{of_bits, to_bits, is_nan}
use Rattle.loops.specs.Worked.{Row, ◌gives◌, Holds}
use Rattle.real.specs.Float.{f0, f1}
use Rattle.real.specs.Real.{abs}
use Rattle.root.specs.Root.{root_of}
use Rattle.vector.specs.Vector.{zero_vector, add, sub, neg, scale, divide, dot, cross, length_of}
use Rattle.vector.specs.Matrix.{identity}
use Rattle.vector.specs.Quaternion.{to_matrix}
use Rattle.vector.specs.declared.Vec3.{Vec3}
use Rattle.vector.specs.declared.Four.{Four}
use Rattle.vector.specs.declared.Quat.{Quat}
use Rattle.shape.specs.Rotation.{cross_sum, dot_sum, correction, settled, extract_rotation}
use Rattle.shape.specs.Cell.{cell_edge_matrix, cell_volume, face_gradient, cell_volume_gradients}

abbrev vec : Float → Float → Float → Vec3
vec x y z = record { x = x; y = y; z = z }

abbrev bits : ℕ → Float
bits b = of_bits binary32 b

-- particle 0 at the origin, and the others at 1 on each axis
abbrev corner : Four Vec3
corner = record { a = vec f0 f0 f0; b = vec f1 f0 f0; c = vec f0 f1 f0; d = vec f0 f0 f1 }

-- the nearest to 1/6, and to -1/6
abbrev sixth : Float
sixth = bits 0x3E2AAAAB

abbrev less_sixth : Float
less_sixth = bits 0xBE2AAAAB

abbrev unturned : Quat
unturned = record { x = f0; y = f0; z = f0; w = f1 }

-- a corner's edges, volume and gradients; the identity is turned by nothing
abbrev pub worked : List Row
worked =
    (cell_edge_matrix corner gives identity)
    ∷ (cell_volume corner gives sixth)
    ∷ (cell_volume_gradients corner gives record { a = vec less_sixth less_sixth less_sixth; b = vec sixth f0 f0; c = vec f0 sixth f0; d = vec f0 f0 sixth })
    ∷ (extract_rotation identity unturned gives unturned)
    ∷ []

pub holds : Holds worked
unfolding cell_edge_matrix cell_volume face_gradient cell_volume_gradients cross_sum dot_sum correction settled extract_rotation identity to_matrix zero_vector add sub neg scale divide dot cross length_of abs root_of is_nan to_bits of_bits ieee.of_fields ieee.lt ieee.add ieee.sub ieee.neg ieee.mul ieee.div ieee.sum ieee.round ieee.units ieee.odd ieee.span ieee.climb ieee.size
holds = (refl, (refl, (refl, (refl, tt))))
