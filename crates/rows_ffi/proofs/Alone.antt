-- A record that stands alone is a record in its frame. Assumes nothing.
use Rattle.std.proofs.Common.{ℕ, zero, suc, ◌+◌, ◌*◌, ◌-◌, ◌/◌, ◌%◌, ◌≤◌, ◌<◌, ◌≡◌, refl, sym, subst, ◌∙◌, Bool, true, false, cond}
use Rattle.std.proofs.Common.{◌&&◌, ◌||◌, List, arith, T, eqb, leb, length, eqb-true, ne_eqb, leb-true, le-leb}
use Rattle.std.proofs.Math.Decide.{dec_lt}
use Rattle.std.proofs.lemmas.Bool.{eqb-false, lt-leb}
use Rattle.little_endian.specs.Bytes.{le16, le32}
use Rattle.records.specs.Records.{record_length}
use Rattle.records.proofs.ByKind.{and_both}
use Rattle.floats.specs.Written.{Written, AllWritten}
use Rattle.records.specs.Kinds.{number_of_kind, length_of, due_as}
use Rattle.records.specs.declared.kinds.Kind.{Kind}
use Rattle.records.specs.declared.kinds.Kind.TheVariants.{Head, Point, Row}
use Rattle.records.specs.declared.Due.TheVariants as due
use Rattle.records.specs.declared.kinds.RowKind.{RowKind}
use Rattle.records.specs.declared.kinds.RowKind.TheVariants.{Scalar, Corotational, NeoHookean}
use Rattle.row.specs.Widths.{row_length, Whole}
use Rattle.rows_ffi.specs.Record.{is_record, is_written, all_written, is_row}

written_is : (n : ℕ) → is_written n ≡ true → Written n
unfolding is_written
written_is n e a = pick (leb (n % 2147483648) 2139095040) refl e
  where
    pick : (b : Bool) → leb (n % 2147483648) 2139095040 ≡ b → (b || eqb n 2143289344) ≡ true → n ≡ 2143289344
    pick true h q = absurd (omega (arith, a, leb-true (n % 2147483648) 2139095040 h))
    pick false h q = eqb-true n 2143289344 q

-- float j of n that are tested
each_written : (s : List ℕ) (n j : ℕ) → j < n → all_written n s ≡ true → Written (le32 s (30 + 4 * j))
unfolding all_written
each_written s zero j h e = absurd (omega arith)
each_written s (suc n) j h e =
    let x = and_both (all_written n s) (is_written (le32 s (30 + 4 * n))) e in
    pick x.1 (λ (l : j < n). each_written s n j l x.0) (eqb j n) refl
  where
    pick : is_written (le32 s (30 + 4 * n)) ≡ true → (j < n → Written (le32 s (30 + 4 * j))) → (b : Bool) → eqb j n ≡ b → Written (le32 s (30 + 4 * j))
    pick x below true q = subst (λ (i : ℕ). Written (le32 s (30 + 4 * i))) (sym (eqb-true j n q)) (written_is _ x)
    pick x below false q = below (omega (arith, h, eqb-false j n q))

module _ (s : List ℕ) where
  is_kind : Bool
  is_kind = eqb (le16 s 4) 3 || eqb (le16 s 4) 4 || eqb (le16 s 4) 5

  pub tests : is_record s ≡ true → (record_length s 0 ≡ length s) × (row_length (le16 s 4) ≤ record_length s 0)
  unfolding is_record is_kind
  tests e = pick (leb 6 (length s)) e
    where
      pick : (b : Bool) → cond b (eqb (record_length s 0) (length s) && is_kind && leb (row_length (le16 s 4)) (record_length s 0)) false ≡ true
          → (record_length s 0 ≡ length s) × (row_length (le16 s 4) ≤ record_length s 0)
      pick true h =
          let all = and_both (eqb (record_length s 0) (length s) && is_kind) (leb (row_length (le16 s 4)) (record_length s 0)) h in
          (eqb-true (record_length s 0) (length s) (and_both (eqb (record_length s 0) (length s)) is_kind all.0).0, leb-true _ _ all.1)
      pick false h = absurd (subst T (sym h) tt)

  module _ (is : is_row s ≡ true) where
    both : (is_record s ≡ true) × (all_written ((length s - 30) / 4) s ≡ true)
    unfolding is_row
    both = pick (is_record s) refl is
      where
        pick : (b : Bool) → is_record s ≡ b → cond b (all_written ((length s - 30) / 4) s) false ≡ true → (is_record s ≡ true) × (all_written ((length s - 30) / 4) s ≡ true)
        pick true h a = (h, a)
        pick false h a = absurd (subst T (sym a) tt)

    e : is_record s ≡ true
    e = both.0

    written : AllWritten s
    written = record {
      at = λ k f t l.
          let j : 30 + 4 * ((k - 30) / 4) ≡ k = omega arith in
          subst (λ (i : ℕ). Written (le32 s i)) j
          (each_written s ((length s - 30) / 4) ((k - 30) / 4) (omega arith) both.1);
    }

    pub whole : Whole s
    whole = record { wide = subst (λ (l : ℕ). row_length (le16 s 4) ≤ l) (tests e).0 (tests e).1; written = written }

  pub short : length s < 6 → false ≡ is_record s
  unfolding is_record
  short h = rw (lt-leb 6 (length s) h) refl

-- ---- what the code tests

four_more : (a b : ℕ) → leb a b ≡ leb (4 + a) (4 + b)
four_more a b = elim (dec_lt b a) [
  | yes h ↦ lt-leb a b h ∙ sym (lt-leb (4 + a) (4 + b) (omega arith))
  | no h ↦ le-leb a b (omega arith) ∙ sym (le-leb (4 + a) (4 + b) (omega arith))
]

-- a row's kind, by its number
module _ (s : List ℕ) where
  room : (t : Bool) (a : ℕ) → (t && leb a (le32 s 0)) ≡ ((t && true) && leb (4 + a) (4 + le32 s 0))
  room true a = four_more a (le32 s 0)
  room false a = refl

  pub of_kind : (k : Kind) → 6 ≤ length s → number_of_kind k ≡ le16 s 4 → due_as k ≡ due.Row → (eqb (4 + le32 s 0) (length s) && leb (length_of k) (le32 s 0)) ≡ is_record s
  unfolding is_record row_length
  of_kind Head l h d = cc
  of_kind Point l h d = cc
  of_kind (Row Scalar) l h d = rw (le-leb 6 (length s) l, ← h) (room (eqb (4 + le32 s 0) (length s)) 178)
  of_kind (Row Corotational) l h d = rw (le-leb 6 (length s) l, ← h) (room (eqb (4 + le32 s 0) (length s)) 614)
  of_kind (Row NeoHookean) l h d = rw (le-leb 6 (length s) l, ← h) (room (eqb (4 + le32 s 0) (length s)) 674)

  no_row : ((k : RowKind) → number_of_kind (Row k) ≡ le16 s 4 → ⊥) → false ≡ is_record s
  unfolding is_record
  no_row h =
      rw (ne_eqb (le16 s 4) 3 (λ z. h Scalar (sym z)), ne_eqb (le16 s 4) 4 (λ z. h Corotational (sym z)), ne_eqb (le16 s 4) 5 (λ z. h NeoHookean (sym z)))
      (none (leb 6 (length s)) (eqb (4 + le32 s 0) (length s)) _)
    where
      none : (a b c : Bool) → false ≡ cond a ((b && false) && c) false
      none true true c = refl
      none true false c = refl
      none false b c = refl

  pub of_no_row : (k : Kind) → number_of_kind k ≡ le16 s 4 → (due_as k ≡ due.Row → ⊥) → false ≡ is_record s
  of_no_row Head h d = no_row (λ j e. apart j (omega (arith, h, e)))
    where
      apart : (j : RowKind) → number_of_kind (Row j) ≡ 1 → ⊥
      apart Scalar e = omega arith
      apart Corotational e = omega arith
      apart NeoHookean e = omega arith
  of_no_row Point h d = no_row (λ j e. apart j (omega (arith, h, e)))
    where
      apart : (j : RowKind) → number_of_kind (Row j) ≡ 2 → ⊥
      apart Scalar e = omega arith
      apart Corotational e = omega arith
      apart NeoHookean e = omega arith
  of_no_row (Row j) h d = absurd (d refl)

  pub of_no_kind : ((k : Kind) → number_of_kind k ≡ le16 s 4 → ⊥) → false ≡ is_record s
  of_no_kind h = no_row (λ j. h (Row j))
