-- Four vectors as C passes them. Definitions only. Assumes nothing.
use Rattle.vector.specs.declared.Vec3.{Vec3}
use Rattle.vector.specs.declared.Four.{Four}
use Rattle.c_types.specs.declared.FourVectors.{FourVectors}

-- the same four vectors
abbrev pub as_four : FourVectors → Four Vec3
as_four x = record { a = x.a; b = x.b; c = x.c; d = x.d }
