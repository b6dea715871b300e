-- A row of a frame: its colour, its flag, the ids of its four places, and the constraint. Definitions only. Assumes nothing.
use Rattle.std.specs.Prelude.{ℕ, Bool, true, false, cond, List, [], ◌∷◌, eqb, ltb, Some, None}
use Rattle.std.proofs.Math.Option.{Option, none, some}
use Rattle.vector.specs.Vector.{zero_vector}
use Rattle.vector.specs.declared.Vec3.{Vec3}
use Rattle.vector.specs.declared.Four.{Four}
use Rattle.places.specs.Places.{Held, Holds, Ids, Masses}
use Rattle.scalar.specs.declared.SoftScalarConstraint.{SoftScalarConstraint}
use Rattle.corotational.specs.declared.CorotationalRow.{CorotationalRow}
use Rattle.neo_hookean.specs.declared.NeoHookeanRow.{NeoHookeanRow}

pub data Constraint : Type 0 where
  scalar : SoftScalarConstraint → Constraint
  corotational : CorotationalRow → Constraint
  neo_hookean : NeoHookeanRow → Constraint

pub record Row : Type 0 where
  pub colour : ℕ
  pub strained : Bool
  pub ids : Ids
  pub constraint : Constraint

-- ---- names: a scalar row names its first `count` ids, an elastic row all four. A place that is not named counts as 0xFFFFFFFF, which is no point

abbrev pub nobody : ℕ
nobody = 0xffff_ffff

abbrev pub counted : ℕ → ℕ → ℕ → ℕ
counted count k id = cond (ltb k count) id nobody

abbrev pub places : Ids → List ℕ
places i = i.a ∷ i.b ∷ i.c ∷ i.d ∷ []

abbrev pub counted_places : ℕ → Ids → List ℕ
counted_places n i = counted n 0 i.a ∷ counted n 1 i.b ∷ counted n 2 i.c ∷ counted n 3 i.d ∷ []

unfoldable pub names_of : Constraint → Ids → List ℕ
names_of (scalar r) i = counted_places r.count i
names_of (corotational r) i = places i
names_of (neo_hookean r) i = places i

unfoldable pub masses_of : Constraint → Masses
masses_of (scalar r) = r.im
masses_of (corotational r) = r.cell.im
masses_of (neo_hookean r) = r.cell.im

-- what a row says of its place and its reach, which no step alters
pub record Key : Type 0 where
  pub colour : ℕ
  pub names : List ℕ
  pub im : Masses

unfoldable pub key_of : Row → Key
key_of r = record { colour = r.colour; names = names_of r.constraint r.ids; im = masses_of r.constraint }

-- ---- what the places hold: `what` is a point's position or its velocity; an id out of range holds zeros, and 0xFFFFFFFF is skipped

module _ {Pt : Type 0} (what : Pt → Vec3) where
  abbrev pub value_of : Option Pt → Vec3
  value_of none = zero_vector
  value_of (some p) = what p

  abbrev pub held_at : ℕ → Option Pt → Held
  held_at id p = cond (eqb id nobody) None (Some (value_of p))

  -- the first place, and those after it
  abbrev pub first_held : List ℕ → List (Option Pt) → Held
  first_held [] vs = None
  first_held (i ∷ is) [] = None
  first_held (i ∷ is) (p ∷ ps) = held_at i p

  abbrev pub rest : {A : Type 0} → List A → List A
  rest [] = []
  rest (x ∷ xs) = xs

  unfoldable pub holds_of : List ℕ → List (Option Pt) → Holds
  holds_of is vs =
      record {
        a = first_held is vs;
        b = first_held (rest is) (rest vs);
        c = first_held (rest (rest is)) (rest (rest vs));
        d = first_held (rest (rest (rest is))) (rest (rest (rest vs)));
      }

-- ---- what the points are to lose, place after place: a row may name one point twice, and then it is altered twice

abbrev pub keep_if : {A : Type 0} → Bool → A → List A → List A
keep_if true x xs = x ∷ xs
keep_if false x xs = xs

-- the ids in range
abbrev pub in_range : ℕ → List ℕ → List ℕ
in_range N [] = []
in_range N (i ∷ is) = keep_if (ltb i N) i (in_range N is)

abbrev pub loss_of : ℕ → ℕ → Vec3 → List (ℕ × Vec3) → List (ℕ × Vec3)
loss_of N i x cs = keep_if (ltb i N) (i, x) cs

abbrev pub losses_of : ℕ → List ℕ → List Vec3 → List (ℕ × Vec3)
losses_of N [] xs = []
losses_of N (i ∷ is) [] = []
losses_of N (i ∷ is) (x ∷ xs) = loss_of N i x (losses_of N is xs)

abbrev pub four : Four Vec3 → List Vec3
four x = x.a ∷ x.b ∷ x.c ∷ x.d ∷ []
