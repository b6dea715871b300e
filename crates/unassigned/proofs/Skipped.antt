-- The position of a place that names nobody is among the bytes that no phase assigns. Assumes nothing.
use Rattle.std.proofs.Common.{ℕ, ◌+◌, ◌*◌, ◌<◌, ◌≡◌, sym, ap, subst, inl, inr, Bool, true, false, cond, not, List, [], ◌∷◌, ◌++◌, arith}
use Rattle.std.proofs.Common.{eqb, get_or, eq-eqb, is_some, Some, None}
use Rattle.std.proofs.Math.Decide.{dec_lt}
use Rattle.little_endian.specs.Bytes.{le16}
use Rattle.relisting.specs.Steps.{fetch}
use Rattle.std.proofs.Math.Option.{Option}
use Rattle.places.specs.Places.{Ids, Holds}
use Rattle.records.specs.Layout as at
use Rattle.rows.specs.Row.{nobody, places, value_of, held_at, holds_of}
use Rattle.stored.specs.Phases.{names_at}
use Rattle.stored.specs.Points.{Points, position}
use Rattle.stored.specs.PhaseLaws.{names_on, names_are, positions_on}
use Rattle.unassigned.specs.Assigned.{Field, floats, ◌and◌, when, Outside, positions, gradients, scalar_update, pose_update, volume_update}
use Rattle.unassigned.specs.Assigned.{block_update, is_still_fresh, assigned_in_update, assigned_in_warm, assigned_in_solve}
use Rattle.unassigned.specs.Stays.{assigned_in_main}

outside_join : (k : ℕ) (fs gs : List Field) → Outside k fs → Outside k gs → Outside k (fs ++ gs)
outside_join k [] gs o p = p
outside_join k (f ∷ fs) gs o p = (o.0, outside_join k fs gs o.1 p)

outside_when : (k : ℕ) (t : Bool) (fs : List Field) → Outside k fs → Outside k (when t fs)
outside_when k true fs o = o
outside_when k false fs o = tt

-- ---- which places are fetched: those that do not name nobody, whatever the points are

-- place p of these is not fetched
pub record Skips (held : Holds) (p : ℕ) : Type 0 where
  pub a : p ≡ 0 → is_some held.a ≡ false
  pub b : p ≡ 1 → is_some held.b ≡ false
  pub c : p ≡ 2 → is_some held.c ≡ false
  pub d : p ≡ 3 → is_some held.d ≡ false

not_named : (id : ℕ) (p : Option (List ℕ)) → id ≡ nobody → is_some (held_at position id p) ≡ false
not_named id p e = ap (λ (t : Bool). is_some (cond t None (Some (value_of position p)))) (eq-eqb id nobody e)

skips_by : (i : Ids) (ps : Points) (is : List ℕ) → is ≡ places i → (p : ℕ) → get_or (places i) p 0 ≡ nobody → Skips (holds_of position is (fetch is ps)) p
unfolding holds_of
skips_by i ps is e p h = subst (λ (l : List ℕ). Skips (holds_of position l (fetch l ps)) p) (sym e) (record {
  a = λ z. not_named i.a _ (subst (λ (q : ℕ). get_or (places i) q 0 ≡ nobody) z h);
  b = λ z. not_named i.b _ (subst (λ (q : ℕ). get_or (places i) q 0 ≡ nobody) z h);
  c = λ z. not_named i.c _ (subst (λ (q : ℕ). get_or (places i) q 0 ≡ nobody) z h);
  d = λ z. not_named i.d _ (subst (λ (q : ℕ). get_or (places i) q 0 ≡ nobody) z h);
})

pub skips : (b : List ℕ) (ps : Points) (p : ℕ) → get_or (places (names_at b)) p 0 ≡ nobody → Skips (positions_on b ps) p
skips b ps p h = skips_by (names_at b) ps (names_on b) (names_are b) p h

-- ---- byte j of place p's position

module _ (p j : ℕ) (four : p < 4) (few : j < 12) where
  abbrev byte : ℕ
  byte = at.row_pos + 12 * p + j

  beside_place : (t : Bool) (q : ℕ) → (p ≡ q → t ≡ false) → Outside byte (when t (floats (at.row_pos + 12 * q) 3))
  beside_place false q h = tt
  beside_place true q h = elim (dec_lt p q) [
    | yes l ↦ (inl (omega arith), tt)
    | no l ↦ (elim (dec_lt q p) [
      | yes m ↦ (inr (omega arith), tt)
      | no m ↦ (let z : ◌≡◌ {A = Bool} true false = h (omega arith) in absurd (clash z))
    ])
  ]
    where
      clash : ◌≡◌ {A = Bool} true false → ⊥
      clash z = let e : ◌≡◌ {A = ℕ} 0 1 = cc in omega arith

  module _ (held : Holds) (s : Skips held p) where
    positions_out : Outside byte (positions held)
    unfolding positions
    positions_out =
        outside_join byte (when (is_some held.a) (floats 30 3)) _ (beside_place (is_some held.a) 0 s.a)
        (outside_join byte (when (is_some held.b) (floats 42 3)) _ (beside_place (is_some held.b) 1 s.b)
        (outside_join byte (when (is_some held.c) (floats 54 3)) _ (beside_place (is_some held.c) 2 s.c)
        (beside_place (is_some held.d) 3 s.d)))

    -- every field but the positions lies before byte 30 or from byte 78 on
    gradients_out : (type : ℕ) → Outside byte (gradients type)
    unfolding gradients
    gradients_out type = (inl (omega arith), outside_when byte (not (eqb type 0)) (floats 118 6) (inl (omega arith), tt))

    scalar_out : (type : ℕ) → Outside byte (scalar_update held type)
    unfolding scalar_update
    scalar_out type = (
      inr (omega arith),
      (
        inl (omega arith),
        (
          inl (omega arith),
          (
            inl (omega arith),
            (
              inl (omega arith),
              outside_join byte (positions held) _ positions_out (gradients_out type),
            ),
          ),
        ),
      ),
    )

    pose_out : Outside byte (pose_update held)
    unfolding pose_update
    pose_out =
        (inr (omega arith), (inr (omega arith), (inl (omega arith), (inl (omega arith), (inl (omega arith), positions_out)))))

    volume_out : Outside byte volume_update
    unfolding volume_update
    volume_out =
        (inl (omega arith), (inl (omega arith), (inl (omega arith), (inl (omega arith), (inl (omega arith), (inl (omega arith), tt))))))

    block_out : (fresh : Bool) → Outside byte (block_update fresh)
    unfolding block_update
    block_out fresh =
        (inl (omega arith), outside_when byte (not fresh) _ (inl (omega arith), (inl (omega arith), (inl (omega arith), tt))))

    impulses_out : Outside byte (floats at.elastic_strain_impulse 6 and floats at.elastic_vol_impulse 1)
    impulses_out = (inl (omega arith), (inl (omega arith), tt))

    by_kind : (t u : Bool) (x y z : List Field) → Outside byte x → Outside byte y → Outside byte z → Outside byte (cond t x (cond u y z))
    by_kind true u x y z ox oy oz = ox
    by_kind false true x y z ox oy oz = oy
    by_kind false false x y z ox oy oz = oz

    module _ (b : List ℕ) where
      update_out : Outside byte (assigned_in_update held b)
      unfolding assigned_in_update
      update_out = by_kind (eqb (le16 b 4) 3) (eqb (le16 b 4) 4) _ _ _ (scalar_out (le16 b 10))
          (outside_join byte (pose_update held) _ pose_out volume_out)
          (outside_join byte (pose_update held) _ pose_out (block_out (is_still_fresh held b)))

      warm_out : Outside byte (assigned_in_warm b)
      unfolding assigned_in_warm
      warm_out = by_kind (eqb (le16 b 4) 3) (eqb (le16 b 4) 4) _ _ _ (inl (omega arith), tt) impulses_out impulses_out

      solve_out : Outside byte (assigned_in_solve b)
      unfolding assigned_in_solve
      solve_out = by_kind (eqb (le16 b 4) 3) (eqb (le16 b 4) 4) _ _ _ (inl (omega arith), tt) impulses_out (inl (omega arith), tt)

  pub main_out : (b : List ℕ) (ps : Points) → get_or (places (names_at b)) p 0 ≡ nobody → (u w : Bool) → Outside byte (assigned_in_main u w b ps)
  unfolding assigned_in_main
  main_out b ps h u w =
      let held : Holds = positions_on b ps in
      let s : Skips held p = skips b ps p h in
      outside_join byte (when u (assigned_in_update held b)) _ (outside_when byte u (assigned_in_update held b) (update_out held s b))
      (outside_join byte (when w (assigned_in_warm b)) _ (outside_when byte w (assigned_in_warm b) (warm_out held s b)) (solve_out held s b))
