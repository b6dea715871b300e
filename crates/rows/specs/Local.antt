-- A row's update, warm start and solve are local: each goes by its row and the points that the row names, alters only named points in range, and keeps colour, names and masses. Assumes nothing.
use Rattle.std.proofs.Common.{ℕ, ◌≡◌, refl, Bool, true, false, ltb, Float, ap, inl, inr, List, [], ◌∷◌}
use Rattle.std.proofs.Math.Option.{Option}
use mathlib.Core.List.Memᴰ
use mathlib.Core.List.{Memᴰ}
use Rattle.relisting.specs.Access.{Access, Local}
use Rattle.relisting.specs.Build.{listed, work_local}
use Rattle.vector.specs.declared.Vec3.{Vec3}
use Rattle.places.specs.Places.{Holds}
use Rattle.scalar.specs.Row as s
use Rattle.corotational.specs.Row as co
use Rattle.neo_hookean.specs.Row as nh
use Rattle.rows.specs.Row.{Row, Constraint, scalar, corotational, neo_hookean, Key, key_of, names_of, masses_of, holds_of, keep_if}
use Rattle.rows.specs.Row.{in_range, losses_of}
use Rattle.rows.specs.Step.{update_of, warmstart_of, solve_of, update, warm, solve, by}

-- ---- the points that a row writes: those that it names and that are in range

in_among : (N : ℕ) (l : List ℕ) (p : ℕ) → Memᴰ p (in_range N l) → Memᴰ p l
in_among N [] p m = m
in_among N (i ∷ is) p m = go (ltb i N) m (in_among N is p)
  where
    go : (t : Bool) → Memᴰ p (keep_if t i (in_range N is)) → (Memᴰ p (in_range N is) → Memᴰ p is) → Memᴰ p (i ∷ is)
    go true m ih = elim (Memᴰ.cases_cons m) [ inl e ↦ Memᴰ.head e | inr t ↦ Memᴰ.tail (ih t) ]
    go false m ih = Memᴰ.tail (ih m)

losses_at : (N : ℕ) (l : List ℕ) (xs : List Vec3) (c : ℕ × Vec3) → Memᴰ c (losses_of N l xs) → Memᴰ c.0 (in_range N l)
losses_at N [] xs c m = absurd (Memᴰ.not-nil m)
losses_at N (i ∷ is) [] c m = absurd (Memᴰ.not-nil m)
losses_at N (i ∷ is) (x ∷ xs) c m = go (ltb i N) m (losses_at N is xs c)
  where
    go : (t : Bool) → Memᴰ c (keep_if t (i, x) (losses_of N is xs)) → (Memᴰ c (losses_of N is xs) → Memᴰ c.0 (in_range N is)) → Memᴰ c.0 (keep_if t i (in_range N is))
    go true m ih = elim (Memᴰ.cases_cons m) [ inl e ↦ Memᴰ.head (ap (λ (y : ℕ × Vec3). y.0) e) | inr t ↦ Memᴰ.tail (ih t) ]
    go false m ih = ih m

module _ (N : ℕ) where
  abbrev pub read : Key → List ℕ
  read k = k.names

  abbrev pub written : Key → List ℕ
  written k = in_range N k.names

  pub among : (r : Row) (p : ℕ) → Memᴰ p (written (key_of r)) → Memᴰ p (read (key_of r))
  among r p m = in_among N (key_of r).names p m

-- ---- no constraint's step alters its names or its masses

module _ (c : Constraint) where
  -- a constraint with the count and the masses of another names the same and weighs the same
  pub record Keeps (d : Constraint) : Type 0 where
    pub names : names_of d ≡ names_of c
    pub masses : masses_of d ≡ masses_of c

update_keeps : (c : Constraint) (held : Holds) → Keeps c (update_of c held)
unfolding update_of names_of masses_of s.begin s.update s.with_peak co.update nh.update
update_keeps (scalar r) held = record { names = refl; masses = refl }
update_keeps (corotational r) held = record { names = refl; masses = refl }
update_keeps (neo_hookean r) held = record { names = refl; masses = refl }

warm_keeps : (c : Constraint) (k : Float) → Keeps c (warmstart_of c k).state
unfolding warmstart_of names_of masses_of s.warmstart
warm_keeps (scalar r) k = record { names = refl; masses = refl }
warm_keeps (corotational r) k = record { names = refl; masses = refl }
warm_keeps (neo_hookean r) k = record { names = refl; masses = refl }

solve_keeps : (c : Constraint) (vel : Holds) → Keeps c (solve_of c vel).state
unfolding solve_of names_of masses_of s.solve
solve_keeps (scalar r) vel = record { names = refl; masses = refl }
solve_keeps (corotational r) vel = record { names = refl; masses = refl }
solve_keeps (neo_hookean r) vel = record { names = refl; masses = refl }

-- ---- the steps

module _ {Pt : Type 0} (position velocity : Pt → Vec3) (lose : Vec3 → Pt → Pt) (N : ℕ) where
  abbrev pub Sheet : Access Row (List Pt) (Option Pt) Key
  Sheet = listed Pt key_of (read N) (written N) (among N)

  key_kept : (r : Row) (b : Bool) (d : Constraint) → Keeps r.constraint d → key_of (record { colour = r.colour; strained = b; ids = r.ids; constraint = d }) ≡ key_of r
  unfolding key_of
  key_kept r b d k = λ i. record { colour = r.colour; names = k.names i r.ids; im = k.masses i }

  pub update_local : (least : Float) → Local Sheet (by position velocity lose N (update position velocity lose N least))
  unfolding update
  update_local least = work_local Pt key_of (read N) (written N) (among N) lose (update position velocity lose N least)
      (λ r vs. key_kept r _ _ (update_keeps r.constraint (holds_of position (key_of r).names vs)))
      (λ r vs c m. absurd (Memᴰ.not-nil m))

  pub warm_local : (coeff : Float) → Local Sheet (by position velocity lose N (warm position velocity lose N coeff))
  unfolding warm
  warm_local coeff = work_local Pt key_of (read N) (written N) (among N) lose (warm position velocity lose N coeff)
      (λ r vs. key_kept r _ _ (warm_keeps r.constraint coeff))
      (λ r vs c m. losses_at N (key_of r).names _ c m)

  pub solve_local : Local Sheet (by position velocity lose N (solve position velocity lose N))
  unfolding solve
  solve_local = work_local Pt key_of (read N) (written N) (among N) lose (solve position velocity lose N)
      (λ r vs. key_kept r _ _ (solve_keeps r.constraint (holds_of velocity (key_of r).names vs)))
      (λ r vs c m. losses_at N (key_of r).names _ c m)
