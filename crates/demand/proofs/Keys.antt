-- Acceptance and relistings of frames, as the proof over any local steps asks for them. check's key of a row has the ids that it names, and that of the sweeps has four places, with 0xFFFFFFFF for one that is not named: of a point in range they say the same. Assumes nothing.
use Rattle.std.proofs.Common.{ℕ, zero, suc, ◌≤◌, ◌<◌, ◌≡◌, refl, sym, ◌∙◌, subst, Bool, true, false, cond, inl, inr, ◌≢◌, List, [], ◌∷◌}
use Rattle.std.proofs.Common.{arith, not-suc-le-zero, le_of_suc-le-suc, ltb, eqb, length, get_or, take, ltb-true}
use mathlib.Core.List.Memᴰ
use mathlib.Core.List.{Memᴰ}
use Rattle.little_endian.specs.Bytes.{le16}
use Rattle.relisting.specs.Relist as any
use Rattle.places.specs.Places.{Ids}
use Rattle.floats.specs.Fields.{ids_at}
use Rattle.records.specs.declared.Due.TheVariants.{Row}
use Rattle.rows.specs.Row.{nobody, counted, places, counted_places, keep_if, in_range}
use Rattle.rows.specs.Row as rows
use Rattle.clash.specs.Clash as clash
use Rattle.clash.specs.Clash.{overflow}
use Rattle.frame.specs.Frames as frame
use Rattle.acceptance.specs.Whole.{row, Chain, Free}
use Rattle.acceptance.proofs.Pairs.{Apart, free_apart, rising_at}
use Rattle.stored.specs.Read.{row_of, constraint_of}
use Rattle.stored.specs.Kept.{names_by}
use Rattle.stored.specs.Local.{Sheet}
use Rattle.demand.specs.Relisted.{Relisting}

-- ---- what a row names

take-mem : (l : List ℕ) (n k : ℕ) → k < n → k < length l → Memᴰ (get_or l k 0) (take n l)
take-mem [] n k h b = absurd (not-suc-le-zero b)
take-mem (x ∷ l) zero k h b = absurd (not-suc-le-zero h)
take-mem (x ∷ l) (suc n) zero h b = Memᴰ.head refl
take-mem (x ∷ l) (suc n) (suc k) h b = Memᴰ.tail (take-mem l n k (le_of_suc-le-suc h) (le_of_suc-le-suc b))

counted_is : (n k id x : ℕ) → x < nobody → x ≡ counted n k id → (k < n) × (x ≡ id)
counted_is n k id x l e = go (ltb k n) refl e
  where
    go : (t : Bool) → ltb k n ≡ t → x ≡ cond t id nobody → (k < n) × (x ≡ id)
    go true f e = (ltb-true k n f, e)
    go false f e = absurd (omega arith)

module _ (n : ℕ) (i : Ids) (x : ℕ) (l : x < nobody) where
  at_place : (k id : ℕ) → k < 4 → get_or (places i) k 0 ≡ id → x ≡ counted n k id → Memᴰ x (take n (places i))
  at_place k id h e c =
      let y = counted_is n k id x l c in
      subst (λ (z : ℕ). Memᴰ z (take n (places i))) (e ∙ sym y.1) (take-mem (places i) n k y.0 h)

  counted_mem : Memᴰ x (counted_places n i) → Memᴰ x (take n (places i))
  counted_mem m = elim (Memᴰ.cases_cons m) [
    | inl e ↦ at_place 0 i.a (omega arith) refl e
    | inr m ↦ (elim (Memᴰ.cases_cons m) [
      | inl e ↦ at_place 1 i.b (omega arith) refl e
      | inr m ↦ (elim (Memᴰ.cases_cons m) [
        | inl e ↦ at_place 2 i.c (omega arith) refl e
        | inr m ↦ (elim (Memᴰ.cases_cons m) [
          | inl e ↦ at_place 3 i.d (omega arith) refl e
          | inr m ↦ absurd (Memᴰ.not-nil m)
        ])
      ])
    ])
  ]

-- a place that holds x, which is not 0xFFFFFFFF, is one of the ids
named : (b : List ℕ) (x : ℕ) → x < nobody → Memᴰ x (rows.key_of (row_of b)).names → Memᴰ x (clash.key_of b).ids
unfolding rows.key_of row_of constraint_of clash.key_of clash.count_of ids_at
named b x l m = go (eqb (le16 b 4) 3) (subst (Memᴰ x) (names_by b (eqb (le16 b 4) 3) (eqb (le16 b 4) 4)) m)
  where
    go : (t : Bool) → Memᴰ x (cond t (counted_places (le16 b 12) (ids_at b 14)) (places (ids_at b 14))) → Memᴰ x (take (cond t (le16 b 12) 4) (places (ids_at b 14)))
    go true m = counted_mem (le16 b 12) (ids_at b 14) x l m
    go false m = m

within_range : (N : ℕ) (l : List ℕ) (p : ℕ) → Memᴰ p (in_range N l) → (p < N) × Memᴰ p l
within_range N [] p m = absurd (Memᴰ.not-nil m)
within_range N (i ∷ is) p m = go (ltb i N) refl m (within_range N is p)
  where
    go : (t : Bool) → ltb i N ≡ t → Memᴰ p (keep_if t i (in_range N is)) → (Memᴰ p (in_range N is) → (p < N) × Memᴰ p is) → (p < N) × Memᴰ p (i ∷ is)
    go true e m ih = elim (Memᴰ.cases_cons m) [
      | inl q ↦ (subst (λ (j : ℕ). j < N) (sym q) (ltb-true i N e), Memᴰ.head q)
      | inr t ↦ ((ih t).0, Memᴰ.tail (ih t).1)
    ]
    go false e m ih = ((ih m).0, Memᴰ.tail (ih m).1)

-- ---- acceptance, and relistings

abbrev pub colour : rows.Key → ℕ
colour k = k.colour

module _ (N : ℕ) (few : N ≤ 4096) where
  apart_no : (b c : List ℕ) → Apart N (clash.key_of b) (clash.key_of c) → le16 b 6 ≡ le16 c 6 → le16 b 6 ≢ overflow → any.Clash (Sheet N) (rows.key_of (row_of b)) (rows.key_of (row_of c)) → ⊥
  unfolding clash.key_of
  apart_no b c a e o (p, inl (w, r)) =
      let x = within_range N (rows.key_of (row_of b)).names p w in
      let s : p < nobody = omega (arith, x.0) in
      a e (λ z. o (e ∙ z)) p x.0 (named c p s r) (named b p s x.1)
  apart_no b c a e o (p, inr (r, w)) =
      let x = within_range N (rows.key_of (row_of c)).names p w in
      let s : p < nobody = omega (arith, x.0) in
      a e (λ z. o (e ∙ z)) p x.0 (named c p s x.1) (named b p s r)

  pub to_accepted : (bs : List (List ℕ)) → Chain Row 0 bs → Free N [] bs → any.Accepted (Sheet N) [] colour overflow bs
  unfolding rows.key_of row_of
  to_accepted bs g f = record {
    rising = λ m n l h. rising_at 0 bs g m n l h;
    apart = λ m n l h e o c. apart_no (row bs m) (row bs n) (free_apart N [] bs f m n l h) e o c;
  }

pub to_relisted : (N : ℕ) (A B : List ℕ) (bs : List (List ℕ)) (σ τ : ℕ → ℕ) → Relisting A B bs σ τ → any.Relisted (Sheet N) [] colour overflow σ τ (frame.rows A) bs
unfolding rows.key_of row_of
to_relisted N A B bs σ τ R = record { lengths = R.as_many; colours = R.same_colour; pairing = R.one_to_one; bytes = R.same_bytes; own = R.overflow_own }
