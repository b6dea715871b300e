-- A row has four places, each with the id of a point. What a place holds is fetched before a row function is called: no row function sees a frame. Definitions only. Assumes nothing.
use Rattle.std.specs.Prelude.{ℕ, Float, Option, Some, None}
use Rattle.real.specs.Float.{◌⊕◌, f0}
use Rattle.vector.specs.Vector.{dot}
use Rattle.vector.specs.declared.Vec3.{Vec3}
use Rattle.vector.specs.declared.Four.{Four}

-- a position or a velocity, where the place is named
abbrev pub Held : Type 0
Held = Option Vec3

-- of each place
abbrev pub Holds : Type 0
Holds = Four Held

abbrev pub Ids : Type 0
Ids = Four ℕ

abbrev pub Masses : Type 0
Masses = Four Float

-- what the place holds where it is named, and the row's own value where it is skipped
abbrev pub held_or : Held → Vec3 → Vec3
held_or (Some x) v = x
held_or None v = v

-- the row's positions anew: an id 0xFFFFFFFF, and a place past the row's count, leave the old one
unfoldable pub refreshed : Holds → Four Vec3 → Four Vec3
refreshed h pos = record { a = held_or h.a pos.a; b = held_or h.b pos.b; c = held_or h.c pos.c; d = held_or h.d pos.d }

-- g·v, where the place is named
abbrev pub rate_at : Vec3 → Held → Option Float
rate_at g (Some v) = Some (dot g v)
rate_at g None = None

-- the sum goes on where there is a rate
abbrev pub plus : Float → Option Float → Float
plus r (Some x) = r ⊕ x
plus r None = r

-- Σ g_p·v_p over the places that are named, from zero
unfoldable pub rate_of : Four Vec3 → Holds → Float
rate_of g vel = plus (plus (plus (plus f0 (rate_at g.a vel.a)) (rate_at g.b vel.b)) (rate_at g.c vel.c)) (rate_at g.d vel.d)
