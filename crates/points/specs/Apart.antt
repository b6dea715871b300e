-- The velocities of a frame's points set apart, as a list of vectors, one for each point: which frame such a list and the frame's bytes stand for. Definitions only. Assumes nothing.
use Rattle.std.specs.Prelude.{ℕ, zero, suc, ◌+◌, ◌<◌, cond, List, ◌≡◌, T, ltb, get_or, set, Option}
use Rattle.std.specs.Float.{nan, binary32}
use Rattle.std.specs.Float.Ieee.{fits}
use Rattle.records.specs.Layout as layout
use Rattle.vector.specs.Vector.{zero_vector, sub}
use Rattle.vector.specs.declared.Vec3.{Vec3}
use Rattle.vector.specs.declared.Four.{Four}
use Rattle.places.specs.Places.{Holds, Ids}
use Rattle.floats.specs.Fields.{vec3_at, put_vec3}
use Rattle.floats.proofs.Same.{Finite3}
use Rattle.points.specs.InFrame.{place_of, named}

-- where the velocity of point i is
abbrev pub velocity_at : ℕ → ℕ
velocity_at i = place_of i + layout.point_velocity

-- what a list that is too short has
abbrev pub no_vector : Vec3
no_vector = record { x = nan; y = nan; z = nan }

-- the velocity of point i
abbrev pub vec_of : List Vec3 → ℕ → Vec3
vec_of v i = get_or v i no_vector

-- and another in its place
abbrev pub set_vec : List Vec3 → ℕ → Vec3 → List Vec3
set_vec v i w = set v i w

-- the frame that s and v stand for: s with the velocities of its first n points from v
unfoldable pub moved : ℕ → List Vec3 → List ℕ → List ℕ
moved zero v s = s
moved (suc n) v s = put_vec3 (moved n v s) (velocity_at n) (vec_of v n)

-- three f32
pub record Fit3 (w : Vec3) : Type 0 where
  pub x : T (fits binary32 w.x)
  pub y : T (fits binary32 w.y)
  pub z : T (fits binary32 w.z)

-- the velocity of point id is, where it is below n
abbrev pub FitAt : ℕ → List Vec3 → ℕ → Type 0
FitAt n v id = id < n → Fit3 (vec_of v id)

-- those of a row's places are
pub record FitOf (n : ℕ) (v : List Vec3) (i : Ids) : Type 0 where
  pub a : FitAt n v i.a
  pub b : FitAt n v i.b
  pub c : FitAt n v i.c
  pub d : FitAt n v i.d

-- the velocities of the n points are finite, as a run finds them
abbrev pub Calm : ℕ → List ℕ → Type 0
Calm n s = (i : ℕ) → i < n → Finite3 s (velocity_at i)

-- v has the velocities of the first n points of s
abbrev pub Apart : ℕ → List ℕ → List Vec3 → Type 0
Apart n s v = (i : ℕ) → i < n → vec_of v i ≡ vec3_at s (velocity_at i)

-- ---- fetch

unfoldable pub held_of : ℕ → List Vec3 → ℕ → Option Vec3
held_of N v id = named id (cond (ltb id N) (vec_of v id) zero_vector)

unfoldable pub holds_of : ℕ → List Vec3 → Ids → Holds
holds_of N v i = record { a = held_of N v i.a; b = held_of N v i.b; c = held_of N v i.c; d = held_of N v i.d }

-- ---- alter

unfoldable pub lost_at : ℕ → List Vec3 → ℕ → Vec3 → List Vec3
lost_at N v id x = cond (ltb id N) (set_vec v id (sub (vec_of v id) x)) v

unfoldable pub lost : ℕ → List Vec3 → Ids → Four Vec3 → List Vec3
lost N v i x = lost_at N (lost_at N (lost_at N (lost_at N v i.a x.a) i.b x.b) i.c x.c) i.d x.d
