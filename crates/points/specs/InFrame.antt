-- What the code that fetches from points and takes from them is proved equal to, on the bytes of a whole frame. A reader of the rules does not need it: proofs/Bridge.antt shows that it is the rules on lists of points. Definitions only. Assumes nothing.
use Rattle.std.specs.Prelude.{ℕ, ◌+◌, ◌*◌, cond, List, [], ◌∷◌, ◌++◌, ◌≡◌, ltb, eqb, length, take, drop, Option, Some, None}
use Rattle.little_endian.specs.Bytes.{part}
use Rattle.records.specs.Layout.{head_end, point_end}
use Rattle.vector.specs.Vector.{zero_vector}
use Rattle.vector.specs.declared.Vec3.{Vec3}
use Rattle.vector.specs.declared.Four.{Four}
use Rattle.places.specs.Places.{Holds, Ids}
use Rattle.rows.specs.Row.{nobody}
use Rattle.stored.specs.Points.{lose}

-- each of the points has the 30 bytes of its record
unfoldable pub Sized : List (List ℕ) → Type 0
Sized [] = Unit
Sized (p ∷ ps) = (length p ≡ 30) × Sized ps

-- s with the n bytes from off on made anew by f
abbrev pub on_part : ℕ → ℕ → (List ℕ → List ℕ) → List ℕ → List ℕ
on_part off n f s = take off s ++ (f (take n (drop off s)) ++ drop (off + n) s)

-- where point id starts
abbrev pub place_of : ℕ → ℕ
place_of id = head_end + point_end * id

-- the bytes of point id
abbrev pub point_in : List ℕ → ℕ → List ℕ
point_in s id = part (place_of id) point_end s

-- ---- fetch: `what` is a point's position or its velocity; an id that is not below N holds zeros, and 0xFFFFFFFF is skipped

abbrev pub named : ℕ → Vec3 → Option Vec3
named id x = cond (eqb id nobody) None (Some x)

unfoldable pub held_in : (List ℕ → Vec3) → ℕ → List ℕ → ℕ → Option Vec3
held_in what N s id = named id (cond (ltb id N) (what (point_in s id)) zero_vector)

unfoldable pub holds_in : (List ℕ → Vec3) → ℕ → List ℕ → Ids → Holds
holds_in what N s i = record { a = held_in what N s i.a; b = held_in what N s i.b; c = held_in what N s i.c; d = held_in what N s i.d }

-- ---- alter: one place after another, and only points below N

unfoldable pub taken_at : ℕ → List ℕ → ℕ → Vec3 → List ℕ
taken_at N s id x = cond (ltb id N) (on_part (place_of id) point_end (lose x) s) s

unfoldable pub taken : ℕ → List ℕ → Ids → Four Vec3 → List ℕ
taken N s i x = taken_at N (taken_at N (taken_at N (taken_at N s i.a x.a) i.b x.b) i.c x.c) i.d x.d
