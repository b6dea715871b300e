-- What the structs that C passes and is passed stand for. Definitions only. Assumes nothing.
use Rattle.std.specs.Prelude.{Bool, true, false, cond, Option, Some, None}
use Rattle.vector.specs.Vector.{zero_vector, splat}
use Rattle.vector.specs.declared.Vec3.{Vec3}
use Rattle.vector.specs.declared.Four.{Four}
use Rattle.places.specs.Places.{Holds}
use Rattle.gradients.specs.declared.Gradients.{Gradients}
use Rattle.c_types.specs.FourVectors.{as_four}
use Rattle.rows_ffi.specs.declared.mirrors.Held as held
use Rattle.rows_ffi.specs.declared.mirrors.Holds as holds
use Rattle.rows_ffi.specs.declared.mirrors.Gradients as gradients
use Rattle.rows_ffi.specs.declared.mirrors.Lost.{Lost}

-- a vector where the place is named
abbrev pub as_held : held.Held → Option Vec3
as_held x = cond x.named (Some x.value) None

abbrev pub as_holds : holds.Holds → Holds
as_holds x = record { a = as_held x.a; b = as_held x.b; c = as_held x.c; d = as_held x.d }

abbrev pub as_gradients : gradients.Gradients → Gradients
as_gradients x = record { grad = as_four x.grad; error = x.error }

-- whether anything is lost, and what each place is to lose
abbrev pub as_lost : Lost → Bool × Four Vec3
as_lost x = (x.done, as_four x.loss)

-- zeros where nothing is
abbrev pub lost_of : Option (Four Vec3) → Bool × Four Vec3
lost_of (Some loss) = (true, loss)
lost_of None = (false, splat zero_vector)
