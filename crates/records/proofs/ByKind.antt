-- Which tests a record's kind gives it, and how long a record that is due is. Assumes nothing.
use Rattle.std.proofs.Common.{ℕ, ◌≡◌, refl, sym, Bool, true, false, ◌&&◌, ◌||◌, ◌⊎◌, inl, inr, List, arith, eqb, eq-eqb, ne_eqb, eqb-true}
use Rattle.little_endian.specs.Bytes.{le16}
use Rattle.records.specs.declared.Due.{Due}
use Rattle.records.specs.declared.Due.TheVariants.{Head, Point, Row}
use Rattle.records.specs.Fields.{head_fields, point_fields, scalar_fields, corotational_fields, neo_hookean_fields, fields}
use Rattle.records.specs.Records.{is_pair, is_due}
use Rattle.records.specs.declared.kinds.Kind as code
use Rattle.records.specs.declared.kinds.Kind.TheVariants as kinds
use Rattle.records.specs.declared.kinds.RowKind.TheVariants.{Scalar, Corotational, NeoHookean}
use Rattle.records.specs.Kinds.{number_of_kind, length_of, due_as}
use Rattle.records.specs.contracts.Due.{the_type}
use denote.Enum.Bare.{sameb}

module _ (b : List ℕ) (c : ℕ) where
  pub fields_1 : le16 b 4 ≡ 1 → fields b c ≡ head_fields b
  unfolding fields
  fields_1 e = simp (eq-eqb (le16 b 4) 1 e)

  pub fields_2 : le16 b 4 ≡ 2 → fields b c ≡ point_fields b
  unfolding fields
  fields_2 e = simp (ne_eqb (le16 b 4) 1 (λ z. omega arith), eq-eqb (le16 b 4) 2 e)

  pub fields_3 : le16 b 4 ≡ 3 → fields b c ≡ scalar_fields b c
  unfolding fields
  fields_3 e = simp (ne_eqb (le16 b 4) 1 (λ z. omega arith), ne_eqb (le16 b 4) 2 (λ z. omega arith), eq-eqb (le16 b 4) 3 e)

  pub fields_4 : le16 b 4 ≡ 4 → fields b c ≡ corotational_fields b c
  unfolding fields
  fields_4 e = simp (ne_eqb (le16 b 4) 1 (λ z. omega arith), ne_eqb (le16 b 4) 2 (λ z. omega arith), ne_eqb (le16 b 4) 3 (λ z. omega arith), eq-eqb (le16 b 4) 4 e)

  pub fields_else : (le16 b 4 ≡ 1 → ⊥) → (le16 b 4 ≡ 2 → ⊥) → (le16 b 4 ≡ 3 → ⊥) → (le16 b 4 ≡ 4 → ⊥) → fields b c ≡ neo_hookean_fields b c
  unfolding fields
  fields_else p q r t = simp (ne_eqb (le16 b 4) 1 p, ne_eqb (le16 b 4) 2 q, ne_eqb (le16 b 4) 3 r, ne_eqb (le16 b 4) 4 t)

  pub fields_5 : le16 b 4 ≡ 5 → fields b c ≡ neo_hookean_fields b c
  fields_5 e = fields_else (λ z. omega arith) (λ z. omega arith) (λ z. omega arith) (λ z. omega arith)

-- of each kind
pub ruleset fields_by_kind = (fields_1, fields_2, fields_3, fields_4, fields_5)

-- ---- kinds and lengths

pub and_both : (a b : Bool) → (a && b) ≡ true → (a ≡ true) × (b ≡ true)
and_both true b e = (refl, e)
and_both false b e = let z : ◌≡◌ {A = Bool} false true = e in (cc, cc)

or_one : (a b : Bool) → (a || b) ≡ true → (a ≡ true) ⊎ (b ≡ true)
or_one true b e = inl refl
or_one false b e = inr e

pair : (kind len k n : ℕ) → is_pair kind len k n ≡ true → (kind ≡ k) × (len ≡ n)
unfolding is_pair
pair kind len k n e = let x = and_both (eqb kind k) (eqb len n) e in (eqb-true kind k x.0, eqb-true len n x.1)

-- the kinds that are due, each with its length
pub data Kind : Due → ℕ → ℕ → Type 0 where
  a_head : {k n : ℕ} → k ≡ 1 → n ≡ 22 → Kind Head k n
  a_point : {k n : ℕ} → k ≡ 2 → n ≡ 26 → Kind Point k n
  a_scalar : {k n : ℕ} → k ≡ 3 → n ≡ 178 → Kind Row k n
  a_corotational : {k n : ℕ} → k ≡ 4 → n ≡ 614 → Kind Row k n
  a_neo_hookean : {k n : ℕ} → k ≡ 5 → n ≡ 674 → Kind Row k n

pub due_kind : (w : Due) (k n : ℕ) → is_due w k n ≡ true → Kind w k n
unfolding is_due
due_kind Head k n e = let x = pair k n 1 22 e in a_head x.0 x.1
due_kind Point k n e = let x = pair k n 2 26 e in a_point x.0 x.1
due_kind Row k n e = elim (or_one (is_pair k n 3 178) _ e) [
  | inl p ↦ (let x = pair k n 3 178 p in a_scalar x.0 x.1)
  | inr p ↦ (elim (or_one (is_pair k n 4 614) _ p) [
    | inl q ↦ (let x = pair k n 4 614 q in a_corotational x.0 x.1)
    | inr q ↦ (let x = pair k n 5 674 q in a_neo_hookean x.0 x.1)
  ])
]

-- ---- by the kinds of the code

or_no : (t : Bool) → (t || false) ≡ t
or_no true = refl
or_no false = refl

pub is_due_kind : (w : Due) (kind : code.Kind) (n : ℕ) → is_due w (number_of_kind kind) n ≡ (sameb the_type (due_as kind) w && eqb n (length_of kind))
unfolding is_due is_pair
is_due_kind Head kinds.Head n = refl
is_due_kind Head kinds.Point n = refl
is_due_kind Head (kinds.Row Scalar) n = refl
is_due_kind Head (kinds.Row Corotational) n = refl
is_due_kind Head (kinds.Row NeoHookean) n = refl
is_due_kind Point kinds.Head n = refl
is_due_kind Point kinds.Point n = refl
is_due_kind Point (kinds.Row Scalar) n = refl
is_due_kind Point (kinds.Row Corotational) n = refl
is_due_kind Point (kinds.Row NeoHookean) n = refl
is_due_kind Row kinds.Head n = refl
is_due_kind Row kinds.Point n = refl
is_due_kind Row (kinds.Row Scalar) n = or_no (eqb n 178)
is_due_kind Row (kinds.Row Corotational) n = or_no (eqb n 614)
is_due_kind Row (kinds.Row NeoHookean) n = refl

-- a number that no kind has
pub no_kind_due : (w : Due) (k n : ℕ) → ((kind : code.Kind) → number_of_kind kind ≡ k → ⊥) → is_due w k n ≡ false
unfolding is_due is_pair
no_kind_due w k n h = go (is_due w k n) refl
  where
    none : {w : Due} → Kind w k n → ⊥
    none (a_head e l) = h kinds.Head (sym e)
    none (a_point e l) = h kinds.Point (sym e)
    none (a_scalar e l) = h (kinds.Row Scalar) (sym e)
    none (a_corotational e l) = h (kinds.Row Corotational) (sym e)
    none (a_neo_hookean e l) = h (kinds.Row NeoHookean) (sym e)

    go : (t : Bool) → is_due w k n ≡ t → is_due w k n ≡ false
    go true e = absurd (none (due_kind w k n e))
    go false e = e
