-- One row's update, warm start and solve, over any kind of point: each fetches what the row's places hold, computes from the row and that alone, and alters the points that the row names and that are in range. The steps of the two sweeps are made of them in stored/specs/Points.antt. Definitions only. Assumes nothing.
use Rattle.std.specs.Prelude.{ℕ, Bool, List, [], Float}
use Rattle.std.proofs.Math.Option.{Option}
use Rattle.relisting.specs.Steps.{fetch, alters}
use Rattle.vector.specs.declared.Vec3.{Vec3}
use Rattle.vector.specs.declared.Four.{Four}
use Rattle.places.specs.Places.{Holds}
use Rattle.places.specs.declared.Solved.{Solved}
use Rattle.scalar.specs.Row as s
use Rattle.corotational.specs.Row as c
use Rattle.neo_hookean.specs.Row as n
use Rattle.cell.specs.Cell as cell
use Rattle.rows.specs.Row.{Row, Constraint, scalar, corotational, neo_hookean, key_of, holds_of, losses_of, four}

-- ---- the constraint by its kind

-- the row's part of an update; the scalar row notes its peak first
unfoldable pub update_of : Constraint → Holds → Constraint
update_of (scalar r) held = scalar (s.begin r held)
update_of (corotational r) held = corotational (c.update r held)
update_of (neo_hookean r) held = neo_hookean (n.update r held)

unfoldable pub strained_of : Constraint → Float → Bool
strained_of (scalar r) least = s.is_strained r least
strained_of (corotational r) least = cell.is_strained r.pose.strain least
strained_of (neo_hookean r) least = cell.is_strained r.pose.strain least

unfoldable pub warmstart_of : Constraint → Float → Solved Constraint
warmstart_of (scalar r) k = record { state = scalar (s.warmstart r k).state; loss = (s.warmstart r k).loss }
warmstart_of (corotational r) k = record { state = corotational (c.with_impulses r (c.warmstart r k).state); loss = (c.warmstart r k).loss }
warmstart_of (neo_hookean r) k = record { state = neo_hookean (n.with_impulses r (n.warmstart r k).state); loss = (n.warmstart r k).loss }

unfoldable pub solve_of : Constraint → Holds → Solved Constraint
solve_of (scalar r) vel = record { state = scalar (s.solve r vel).state; loss = (s.solve r vel).loss }
solve_of (corotational r) vel = record { state = corotational (c.with_impulses r (c.solve r vel).state); loss = (c.solve r vel).loss }
solve_of (neo_hookean r) vel = record { state = neo_hookean (n.with_impulses r (n.solve r vel).state); loss = (n.solve r vel).loss }

abbrev pub with_constraint : Row → Constraint → Row
with_constraint r c = record { colour = r.colour; strained = r.strained; ids = r.ids; constraint = c }

-- ---- one row among N points. A point has a position and a velocity, and loses what a row takes from it

module _ {Pt : Type 0} (position velocity : Pt → Vec3) (lose : Vec3 → Pt → Pt) (N : ℕ) where
  abbrev pub names : Row → List ℕ
  names r = (key_of r).names

  -- fetch, compute, alter: a point that is listed twice is altered twice
  abbrev pub by : (Row → List (Option Pt) → Row × List (ℕ × Vec3)) → Row → List Pt → Row × List Pt
  by g r s = let x = g r (fetch (names r) s) in (x.0, alters lose x.1 s)

  abbrev pub lost : Row → Four Vec3 → List (ℕ × Vec3)
  lost r x = losses_of N (names r) (four x)

  -- an update also records whether the row is strained past the least
  unfoldable pub update : Float → Row → List (Option Pt) → Row × List (ℕ × Vec3)
  update least r vs =
      let c = update_of r.constraint (holds_of position (names r) vs) in
      (record { colour = r.colour; strained = strained_of c least; ids = r.ids; constraint = c }, [])

  unfoldable pub warm : Float → Row → List (Option Pt) → Row × List (ℕ × Vec3)
  warm coeff r vs = let x = warmstart_of r.constraint coeff in (with_constraint r x.state, lost r x.loss)

  unfoldable pub solve : Row → List (Option Pt) → Row × List (ℕ × Vec3)
  solve r vs = let x = solve_of r.constraint (holds_of velocity (names r) vs) in (with_constraint r x.state, lost r x.loss)
