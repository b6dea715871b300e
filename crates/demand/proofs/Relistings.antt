-- The first part of demand 3: a relisting of an accepted frame is accepted, at 0. Assumes nothing.
use Rattle.std.proofs.Common.{ℕ, ◌+◌, ◌≤◌, ◌<◌, ◌≡◌, sym, ap, ◌∙◌, subst, subst₂, List, [], ◌++◌, append_assoc, append-nil, arith, length}
use Rattle.std.proofs.Common.{take, length-append, take_at}
use Rattle.std.proofs.Math.Decide.{dec_lt}
use mathlib.Core.List.Memᴰ
use Rattle.little_endian.specs.Bytes.{le32}
use Rattle.records.specs.declared.Due.TheVariants.{Head, Point, Row}
use Rattle.records.specs.Answers.{accepted}
use Rattle.records.specs.Records.{records, end_of, flatten}
use Rattle.clash.specs.Clash.{Key, key_of}
use Rattle.frame.specs.Frames.{count_n, count_r, rows_at, head, points, rows}
use Rattle.frame.specs.Check.{check_of}
use Rattle.acceptance.specs.Whole.{row, Good, Chain, Free, Whole}
use Rattle.demand.specs.Relisted.{Relisting}
use Rattle.acceptance.proofs.Parsing.{build, as_many}
use Rattle.acceptance.proofs.Wholes.{accepted_whole, whole_accepted, head_length}
use Rattle.acceptance.proofs.Pairs.{Apart, key_at, free_apart, apart_free, good_at, rising_at, chain_of}
use Rattle.demand.proofs.Laid.{heads_32}

-- that two rows do not clash goes both ways
apart_sym : (N : ℕ) (q k : Key) → Apart N q k → Apart N k q
apart_sym N q k a c o x h m n = a (sym c) (λ e. o (sym c ∙ e)) x h n m

module _ (A B : List ℕ) (bs : List (List ℕ)) (σ τ : ℕ → ℕ) (w : Whole A) (R : Relisting A B bs σ τ) where
  in_a : (n : ℕ) → n < length bs → n < length (rows A)
  in_a n h = subst (λ (c : ℕ). n < c) R.as_many h

  home : (n : ℕ) → n < length bs → τ n < length (rows A)
  home n h = R.one_to_one.home n (in_a n h)

  -- row n of B has the bytes of its partner
  partner : (n : ℕ) → n < length bs → row (rows A) (τ n) ≡ row bs n
  partner n h = sym (R.same_bytes (τ n) (home n h)) ∙ ap (row bs) (R.one_to_one.στ n (in_a n h))

  apart_any : (i j : ℕ) → (i ≡ j → ⊥) → i < length (rows A) → j < length (rows A) → Apart (count_n A) (key_at (rows A) i) (key_at (rows A) j)
  apart_any i j ne hi hj = elim (dec_lt i j) [
    | yes l ↦ free_apart (count_n A) [] (rows A) w.free i j l hj
    | no g ↦ apart_sym (count_n A) (key_at (rows A) j) (key_at (rows A) i) (free_apart (count_n A) [] (rows A) w.free j i (omega arith) hi)
  ]

  good : Chain Row 0 bs
  good = chain_of 0 bs
      (λ n h. subst (Good Row 0) (partner n h) (good_at 0 (rows A) w.good_rows (τ n) (home n h)))
      (λ n h. omega arith)
      (λ m n l h. let k = R.as_many in
      omega (arith, R.same_colour m (omega arith), R.same_colour n (omega arith), rising_at 0 (rows A) w.good_rows m n l (omega arith)))

  free : Free (count_n A) [] bs
  free = apart_free (count_n A) [] bs (λ q m n h. absurd (Memᴰ.not-nil m))
      (λ m n l h. let k = R.as_many in
      subst₂ (λ (x y : List ℕ). Apart (count_n A) (key_of x) (key_of y)) (partner m (omega arith)) (partner n h)
      (apart_any (τ m) (τ n)
      (λ e. let z : σ (τ m) ≡ σ (τ n) = ap σ e in omega (arith, R.one_to_one.στ m (omega arith), R.one_to_one.στ n (omega arith)))
      (home m (omega arith)) (home n h)))

  -- ---- B's own parts

  long : length (head A) ≡ 26
  long = head_length (head A) w.good_head

  pub head_b : head B ≡ head A
  head_b = ap (take 26) R.made ∙ take_at (head A) (flatten (points A) ++ flatten bs) 26 long

  same_32 : (k : ℕ) → k + 4 ≤ 26 → le32 B k ≡ le32 A k
  same_32 = heads_32 B A head_b

  many : length (points A) ≡ count_n B
  many = as_many (count_n A) A 26 ∙ sym (same_32 6 (omega arith))

  many_r : length bs ≡ count_r B
  many_r = R.as_many ∙ as_many (count_r A) A (rows_at A) ∙ sym (same_32 10 (omega arith))

  pub points_same : points B ≡ points A
  points_same = ap (λ (k : ℕ). records k B 26) (sym many) ∙ (build Point (points A) (head A) (flatten bs) B 26 0 R.made long w.good_points).same

  at : rows_at B ≡ 26 + length (flatten (points A))
  at = ap (λ (k : ℕ). end_of k B 26) (sym many) ∙ (build Point (points A) (head A) (flatten bs) B 26 0 R.made long w.good_points).end

  pub rows_same : rows B ≡ bs
  rows_same =
      ap (λ (k : ℕ). records k B (rows_at B)) (sym many_r)
      ∙ (build Row bs (head A ++ flatten (points A)) [] B (rows_at B) 0
      (R.made ∙ sym (append_assoc (head A) (flatten (points A)) (flatten bs)) ∙ ap ((head A ++ flatten (points A)) ++◌) (sym (append-nil (flatten bs))))
      (length-append (head A) (flatten (points A)) ∙ omega (arith, long, at)) good).same

  pub whole_relisted : Whole B
  whole_relisted = record {
    bytes = R.made ∙ λ i. sym head_b i ++ (flatten (sym points_same i) ++ flatten (sym rows_same i));
    good_head = subst (Good Head 0) (sym head_b) w.good_head;
    good_points = subst (Chain Point 0) (sym points_same) w.good_points;
    good_rows = subst (Chain Row 0) (sym rows_same) good;
    free = subst₂ (λ (n : ℕ) (l : List (List ℕ)). Free n [] l) (sym (same_32 6 (omega arith))) (sym rows_same) free;
  }

-- A RELISTING OF AN ACCEPTED FRAME IS ACCEPTED
pub relisting_accepted : (A B : List ℕ) (bs : List (List ℕ)) (σ τ : ℕ → ℕ) → check_of A ≡ accepted → Relisting A B bs σ τ → check_of B ≡ accepted
relisting_accepted A B bs σ τ ok R = whole_accepted B (whole_relisted A B bs σ τ (accepted_whole A ok) R)
