-- A row of each kind: its phases are those of its kind, and there is room for its fields. Assumes nothing.
use Rattle.std.proofs.Common.{◌≡◌, refl, sym, ap, ◌∙◌, subst, ℕ, ◌≤◌, Bool, true, false, cond, eqb, List, length, Float, arith}
use Rattle.little_endian.specs.Bytes.{le16}
use Rattle.places.specs.Places.{Holds, Ids}
use Rattle.floats.specs.Fields.{ids_at}
use Rattle.rows.specs.Row.{Constraint, scalar, corotational, neo_hookean}
use Rattle.rows.specs.Step.{update_of, strained_of, warmstart_of, solve_of}
use Rattle.scalar.specs.Row as s
use Rattle.scalar.specs.declared.SoftScalarConstraint.{SoftScalarConstraint}
use Rattle.stored.specs.Read.{constraint_of, scalar_of, corotational_of, neo_hookean_of}
use Rattle.records.specs.Layout as at
use Rattle.records.specs.Kinds.{row_kind}
use Rattle.records.specs.declared.kinds.RowKind.{RowKind}
use Rattle.records.specs.declared.kinds.RowKind.TheVariants.{Scalar, Corotational, NeoHookean}
use Rattle.stored.specs.Put.{put_flag, put_scalar, put_corotational, put_constraint, warm_constraint, solve_constraint}
use Rattle.stored.specs.Phases.{counted_ids, names_at, update_row, warm_row, warm_loss, solve_row, solve_loss}
use Rattle.corotational_record.specs.Parts as coro_parts
use Rattle.corotational_record.specs.declared.Update as coro
use Rattle.neo_hookean_record.specs.Parts as parts
use Rattle.neo_hookean_record.specs.declared.Update as neo
use Rattle.neo_hookean_record.proofs.Moved.{updated_is}
use Rattle.row.specs.Widths.{row_length, width, Whole}

-- ---- room

pub long_row : (kind l : ℕ) → row_length kind ≤ l → 182 ≤ l
unfolding row_length
long_row kind l h = go (eqb kind 3) (eqb kind 4) h
  where
    go : (t u : Bool) → cond t 182 (cond u 618 678) ≤ l → 182 ≤ l
    go true u h = h
    go false true h = omega arith
    go false false h = omega arith

pub room_of : (kind l : ℕ) → row_length kind ≤ l → width (row_kind kind) ≤ l
unfolding row_length
room_of kind l h = go (eqb kind 3) (eqb kind 4) h
  where
    go : (t u : Bool) → cond t 182 (cond u 618 678) ≤ l → width (cond t Scalar (cond u Corotational NeoHookean)) ≤ l
    go true u h = h
    go false true h = h
    go false false h = h

room : (b : List ℕ) {kind : RowKind} → Whole b → kind ≡ row_kind (le16 b 4) → (k : RowKind) → kind ≡ k → width k ≤ length b
room b w e k h = subst (λ (q : RowKind). width q ≤ length b) (sym e ∙ h) (room_of (le16 b 4) (length b) w.wide)

pub room_any : (b : List ℕ) → Whole b → 182 ≤ length b
room_any b w = long_row (le16 b 4) (length b) w.wide

pub room_scalar : (b : List ℕ) {kind : RowKind} → Whole b → kind ≡ row_kind (le16 b 4) → kind ≡ Scalar → 182 ≤ length b
room_scalar b w e h = room b w e Scalar h

pub room_corotational : (b : List ℕ) {kind : RowKind} → Whole b → kind ≡ row_kind (le16 b 4) → kind ≡ Corotational → 618 ≤ length b
room_corotational b w e h = room b w e Corotational h

pub room_neo : (b : List ℕ) {kind : RowKind} → Whole b → kind ≡ row_kind (le16 b 4) → kind ≡ NeoHookean → 678 ≤ length b
room_neo b w e h = room b w e NeoHookean h

pub ruleset by_room = (room_any, room_scalar, room_corotational, room_neo)

-- ---- names

abbrev names_by : RowKind → List ℕ → Ids
names_by Scalar b = counted_ids (le16 b 12) (ids_at b 14)
names_by Corotational b = ids_at b 14
names_by NeoHookean b = ids_at b 14

names_is : (b : List ℕ) → names_by (row_kind (le16 b 4)) b ≡ names_at b
unfolding names_at
names_is b = go (eqb (le16 b 4) 3) (eqb (le16 b 4) 4)
  where
    go : (t u : Bool) → names_by (cond t Scalar (cond u Corotational NeoHookean)) b ≡ cond t (counted_ids (le16 b 12) (ids_at b 14)) (ids_at b 14)
    go true u = refl
    go false true = refl
    go false false = refl

pub names_of_kind : (b : List ℕ) {kind : RowKind} → kind ≡ row_kind (le16 b 4) → (k : RowKind) → kind ≡ k → names_by k b ≡ names_at b
names_of_kind b e k h = ap (λ (q : RowKind). names_by q b) (sym h ∙ e) ∙ names_is b

-- ---- phases: b is the record that was read, ys what it is made to be

abbrev by_kind : RowKind → List ℕ → Constraint
by_kind Scalar b = scalar (scalar_of b)
by_kind Corotational b = corotational (corotational_of b)
by_kind NeoHookean b = neo_hookean (neo_hookean_of b)

constraint_is : (b : List ℕ) → by_kind (row_kind (le16 b 4)) b ≡ constraint_of b
unfolding constraint_of
constraint_is b = go (eqb (le16 b 4) 3) (eqb (le16 b 4) 4)
  where
    go : (t u : Bool) → by_kind (cond t Scalar (cond u Corotational NeoHookean)) b ≡ cond t (scalar (scalar_of b)) (cond u (corotational (corotational_of b)) (neo_hookean (neo_hookean_of b)))
    go true u = refl
    go false true = refl
    go false false = refl

module _ (b : List ℕ) {kind : RowKind} (e : kind ≡ row_kind (le16 b 4)) where
  is : (k : RowKind) → kind ≡ k → by_kind k b ≡ constraint_of b
  is k h = ap (λ (q : RowKind). by_kind q b) (sym h ∙ e) ∙ constraint_is b

  module _ (least : Float) (held : Holds) where
    abbrev updated : Constraint → List ℕ
    updated q = let u = update_of q held in put_flag (put_constraint u b) at.row_strained (strained_of u least)

    pub update_scalar : kind ≡ Scalar → {r : SoftScalarConstraint} {ys : List ℕ} → r ≡ s.begin (scalar_of b) held
        → ys ≡ put_flag (put_scalar r b) at.row_strained (s.is_strained r least) → ys ≡ update_row least held b
    unfolding update_row update_of strained_of put_constraint
    update_scalar h d p = p ∙ ap (λ (r : SoftScalarConstraint). put_flag (put_scalar r b) at.row_strained (s.is_strained r least)) d ∙ ap updated (is Scalar h)

    pub update_corotational : kind ≡ Corotational → {u : coro.Update} {ys : List ℕ} → u ≡ coro_parts.update_anew held b
        → ys ≡ coro_parts.put_update u least b → ys ≡ update_row least held b
    unfolding update_row update_of strained_of put_constraint put_corotational
    update_corotational h found put = put ∙ ap (λ (u : coro.Update). coro_parts.put_update u least b) found ∙ ap updated (is Corotational h)

    pub update_neo : kind ≡ NeoHookean → {u : neo.Update} {ys : List ℕ} → u ≡ parts.update_anew held b → ys ≡ parts.put_update u least b
        → ys ≡ update_row least held b
    unfolding update_row update_of strained_of put_constraint
    update_neo h found put = updated_is least held b found put ∙ ap updated (is NeoHookean h)

-- a warm start and a solve of the row are those of the row of its kind
pub warm_is : (b : List ℕ) (coeff : Float) {kind : RowKind} → kind ≡ row_kind (le16 b 4) → (k : RowKind) → kind ≡ k
    → warm_row coeff b ≡ warm_constraint (warmstart_of (by_kind k b) coeff).state b
unfolding warm_row
warm_is b coeff e k h = ap (λ (q : Constraint). warm_constraint (warmstart_of q coeff).state b) (sym (is b e k h))

pub warm_loss_is : (b : List ℕ) (coeff : Float) {kind : RowKind} → kind ≡ row_kind (le16 b 4) → (k : RowKind) → kind ≡ k
    → warm_loss coeff b ≡ (warmstart_of (by_kind k b) coeff).loss
unfolding warm_loss
warm_loss_is b coeff e k h = ap (λ (q : Constraint). (warmstart_of q coeff).loss) (sym (is b e k h))

pub solve_is : (b : List ℕ) (vel : Holds) {kind : RowKind} → kind ≡ row_kind (le16 b 4) → (k : RowKind) → kind ≡ k
    → solve_row vel b ≡ solve_constraint (solve_of (by_kind k b) vel).state b
unfolding solve_row
solve_is b vel e k h = ap (λ (q : Constraint). solve_constraint (solve_of q vel).state b) (sym (is b e k h))

pub solve_loss_is : (b : List ℕ) (vel : Holds) {kind : RowKind} → kind ≡ row_kind (le16 b 4) → (k : RowKind) → kind ≡ k
    → solve_loss vel b ≡ (solve_of (by_kind k b) vel).loss
unfolding solve_loss
solve_loss_is b vel e k h = ap (λ (q : Constraint). (solve_of q vel).loss) (sym (is b e k h))

pub ruleset by_update = (by_room, update_scalar, update_corotational, update_neo)

pub ruleset by_phase = (by_room, warm_is, warm_loss_is, solve_is, solve_loss_is)
