-- THE RUN, over any kind of row, any state that rows share (the points) and any two steps: what a step is made of, and the sweeps. Definitions only. Assumes nothing.
use Rattle.std.specs.Prelude.{ℕ, zero, suc, Bool, true, false, List, [], ◌∷◌, map, replicate}
use Rattle.std.proofs.Math.Option.{Option}
use Rattle.std.proofs.Math.ListN.{get_elem?}

-- ---- steps: a row R and the state S in, both back

-- neither is altered
abbrev pub nothing : {R S : Type 0} → R → S → R × S
nothing r s = (r, s)

infixl 20 ◌then◌
-- f, and then g with what f left
abbrev pub ◌then◌ : {R S : Type 0} → (R → S → R × S) → (R → S → R × S) → R → S → R × S
◌then◌ f g r s = let x = f r s in g x.0 x.1

abbrev pub pick : {R S : Type 0} → Bool → (R → S → R × S) → (R → S → R × S) → R → S → R × S
pick true f g = f
pick false f g = g

-- f for the rows that c holds of, g for all others; c is asked of the row as it comes
abbrev pub choose : {R S : Type 0} → (R → Bool) → (R → S → R × S) → (R → S → R × S) → R → S → R × S
choose c f g r s = pick (c r) f g r s

-- a row that is stored as X, as bytes: read it, step, put back
abbrev pub storing : {R S X : Type 0} → (X → R) → (R → X → X) → (R → S → R × S) → X → S → X × S
storing read put f x s = let y = f (read x) s in (put y.0 x, y.1)

-- ---- points as a list: an id is in range when it is below their number

-- what the points of some ids hold; an id not in range has none
abbrev pub fetch : {Pt : Type 0} → List ℕ → List Pt → List (Option Pt)
fetch ids s = map (get_elem? s) ids

-- point i by h; an id not in range is never written
abbrev pub alter : {Pt : Type 0} → List Pt → ℕ → (Pt → Pt) → List Pt
alter [] i h = []
alter (x ∷ s) zero h = h x ∷ s
alter (x ∷ s) (suc i) h = x ∷ alter s i h

-- one after another, so that a point listed twice is altered twice; `act` says what a change does to a point
abbrev pub alters : {Pt Δ : Type 0} → (Δ → Pt → Pt) → List (ℕ × Δ) → List Pt → List Pt
alters act [] s = s
alters act (c ∷ cs) s = alters act cs (alter s c.0 (act c.1))

-- ---- sweeps

module _ {R S : Type 0} (f : R → S → R × S) where
  -- one sweep: the rows in listed order, each with the state that those before it left
  abbrev pub sweep : List R → S → List R × S
  sweep [] s = ([], s)
  sweep (r ∷ rs) s =
      let h : R × S = f r s in
      let t : List R × S = sweep rs h.1 in
      (h.0 ∷ t.0, t.1)

-- sweeps one after another, each with its own step
abbrev pub sweeps : {R S : Type 0} → List (R → S → R × S) → List R × S → List R × S
sweeps [] x = x
sweeps (f ∷ fs) x = sweeps fs (sweep f x.0 x.1)

-- the main sweep, by f, and then k resweeps, each by g
abbrev pub run : {R S : Type 0} → (R → S → R × S) → (R → S → R × S) → ℕ → List R → S → List R × S
run f g k rows s = sweeps (f ∷ replicate k g) (rows, s)
