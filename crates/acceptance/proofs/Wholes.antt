-- A frame is accepted exactly where it is whole; and then its numbers are in range. Assumes nothing.
use Rattle.std.proofs.Common.{ℕ, zero, suc, ◌+◌, ◌*◌, ◌≤◌, ◌≡◌, refl, sym, ap, ◌∙◌, subst, List, [], ◌∷◌, ◌++◌, append_assoc, append-nil}
use Rattle.std.proofs.Common.{arith, length, take, drop, length-append, take-append-drop, drop_of_length-le, le-ltb, ltb-false}
use Rattle.little_endian.specs.Bytes.{le16, le32}
use Rattle.little_endian.proofs.Parts.{le16_part}
use Rattle.records.specs.declared.Answer.{Answer}
use Rattle.records.specs.declared.Due.TheVariants.{Head, Point, Row}
use Rattle.records.specs.Answers.{accepted, Passed}
use Rattle.records.specs.Records.{record_length, record_at, record_tests, records_tests, records, end_of, flatten}
use Rattle.records.proofs.Firsts.{passed_split, passed_join, passed_first, first_passed}
use Rattle.records.proofs.ByKind.{Kind, a_head, a_point, a_scalar, a_corotational, a_neo_hookean}
use Rattle.records.proofs.Shapes.{record_passed, kind_record}
use Rattle.records.proofs.Values.{head_values}
use Rattle.clash.specs.Clash.{Key, key_of, clash_tests}
use Rattle.frame.specs.Frames.{count_n, count_r, rows_at, rows_end, head, points, rows}
use Rattle.frame.specs.Check.{extra, frame_tests, check_of}
use Rattle.frame.proofs.Answered.{head_shaped, head_kind, head_long, few_points, few_rows}
use Rattle.acceptance.specs.Whole.{Good, Chain, Free, Whole, InRange}
use Rattle.acceptance.proofs.Parsing.{good_kind, record_good, parse, build, passes_in, as_many}

-- ---- 8 and 9

pub no_extra : (s : List ℕ) → Passed (extra s) → length s ≤ rows_end s
unfolding extra Passed
no_extra s p = ltb-false (rows_end s) (length s) p.0

pub extra_passes : (s : List ℕ) → length s ≤ rows_end s → Passed (extra s)
unfolding extra Passed
extra_passes s h = (le-ltb (rows_end s) (length s) h, tt)

free_parse : (N k : ℕ) (s : List ℕ) (off : ℕ) (before : List Key) → Passed (clash_tests N k s off before) → Free N before (records k s off)
unfolding clash_tests records Free Passed
free_parse N zero s off before p = tt
free_parse N (suc k) s off before p = (p.0, free_parse N k s (off + record_length s off) (key_of (record_at s off) ∷ before) p.1)

free_build : (N k : ℕ) (s : List ℕ) (off : ℕ) (before : List Key) → Free N before (records k s off) → Passed (clash_tests N k s off before)
unfolding clash_tests records Free Passed
free_build N zero s off before f = tt
free_build N (suc k) s off before f = (f.0, free_build N k s (off + record_length s off) (key_of (record_at s off) ∷ before) f.1)

-- ---- from the tests

module _ (s : List ℕ) (p : Passed (record_tests Head s 0 0)) where
  head_record : record_at s 0 ≡ head s
  head_record = let n : record_length s 0 ≡ 26 = omega (arith, (head_kind s p).1) in ap (λ (n : ℕ). take n s) n

  head_good : Good Head 0 (head s)
  head_good = subst (Good Head 0) head_record (record_good Head s 0 0 p)

pub whole : (s : List ℕ) → Passed (frame_tests s) → Whole s
unfolding frame_tests
whole s p =
    let t1 = passed_split (record_tests Head s 0 0) _ p in
    let t2 = passed_split (records_tests Point (count_n s) s 26 0) _ t1.1 in
    let t3 = passed_split (records_tests Row (count_r s) s (rows_at s) 0) _ t2.1 in
    let t4 = passed_split (extra s) _ t3.1 in
    let ps = parse Point (count_n s) s 26 0 (head_long s t1.0) t2.0 in
    let rs = parse Row (count_r s) s (rows_at s) 0 ps.inside t3.0 in
    let end : flatten (rows s) ≡ drop (rows_at s) s =
    sym (append-nil (flatten (rows s))) ∙ ap (flatten (rows s) ++◌) (sym (drop_of_length-le s (no_extra s t4.0))) ∙ rs.bytes in
    record {
      bytes = sym (take-append-drop 26 s) ∙ ap (head s ++◌) (sym ps.bytes ∙ ap (flatten (points s) ++◌) (sym end));
      good_head = head_good s t1.0;
      good_points = ps.good;
      good_rows = rs.good;
      free = free_parse (count_n s) (count_r s) s (rows_at s) [] t4.1;
    }

-- ---- and back

pub head_length : (b : List ℕ) → Good Head 0 b → length b ≡ 26
head_length b g = go (good_kind Head 0 b g)
  where
    go : Kind Head (le16 b 4) (le32 b 0) → length b ≡ 26
    go (a_head k n) = omega (arith, g.size)

module _ (s : List ℕ) (w : Whole s) where
  long_head : length (head s) ≡ 26
  long_head = head_length (head s) w.good_head

  head_passes : Passed (record_tests Head s 0 0)
  head_passes = subst (λ (x : List ℕ). Passed (record_tests Head x 0 0)) (sym w.bytes) (passes_in Head 0 [] (head s) (flatten (points s) ++ flatten (rows s)) 0 refl w.good_head)

  points_built : Passed (records_tests Point (count_n s) s 26 0) × (rows_at s ≡ 26 + length (flatten (points s)))
  points_built =
      let x = build Point (points s) (head s) (flatten (rows s)) s 26 0 w.bytes long_head w.good_points in
      let n = as_many (count_n s) s 26 in
      (subst (λ (k : ℕ). Passed (records_tests Point k s 26 0)) n x.passed, subst (λ (k : ℕ). end_of k s 26 ≡ 26 + length (flatten (points s))) n x.end)

  rows_built : Passed (records_tests Row (count_r s) s (rows_at s) 0) × (rows_end s ≡ rows_at s + length (flatten (rows s)))
  rows_built =
      let x = build Row (rows s) (head s ++ flatten (points s)) [] s (rows_at s) 0
      (w.bytes ∙ sym (append_assoc (head s) (flatten (points s)) (flatten (rows s))) ∙ ap ((head s ++ flatten (points s)) ++◌) (sym (append-nil (flatten (rows s)))))
      (length-append (head s) (flatten (points s)) ∙ omega (arith, long_head, points_built.1)) w.good_rows in
      let n = as_many (count_r s) s (rows_at s) in
      (subst (λ (k : ℕ). Passed (records_tests Row k s (rows_at s) 0)) n x.passed, subst (λ (k : ℕ). end_of k s (rows_at s) ≡ rows_at s + length (flatten (rows s))) n x.end)

  size : length s ≡ 26 + (length (flatten (points s)) + length (flatten (rows s)))
  size = ap length w.bytes ∙ length-append (head s) _ ∙ omega (arith, long_head, length-append (flatten (points s)) (flatten (rows s)))

  pub ends : rows_end s ≡ length s
  ends = omega (arith, rows_built.1, points_built.1, size)

  pub whole_passes : Passed (frame_tests s)
  unfolding frame_tests
  whole_passes =
      passed_join (record_tests Head s 0 0) _ head_passes
      (passed_join (records_tests Point (count_n s) s 26 0) _ points_built.0
      (passed_join (records_tests Row (count_r s) s (rows_at s) 0) _ rows_built.0
      (passed_join (extra s) _ (extra_passes s (omega (arith, ends)))
      (free_build (count_n s) (count_r s) s (rows_at s) [] w.free))))

-- ACCEPTED MEANS WHOLE, and the other way round
pub accepted_whole : (s : List ℕ) → check_of s ≡ accepted → Whole s
unfolding check_of
accepted_whole s e = whole s (first_passed (frame_tests s) (ap (λ (a : Answer). a.number) e))

pub whole_accepted : (s : List ℕ) → Whole s → check_of s ≡ accepted
unfolding check_of
whole_accepted s w = passed_first (frame_tests s) (whole_passes s w)

-- ---- the numbers of a whole frame

pub point_length : (c : ℕ) (b : List ℕ) → Good Point c b → length b ≡ 30
point_length c b g = go (good_kind Point c b g)
  where
    go : Kind Point (le16 b 4) (le32 b 0) → length b ≡ 30
    go (a_point k n) = omega (arith, g.size)

-- a row is as long as its kind says
pub row_length_lem : (c : ℕ) (b : List ℕ) → Good Row c b → (182 ≤ length b) × (length b ≤ 678)
row_length_lem c b g = go (good_kind Row c b g)
  where
    go : Kind Row (le16 b 4) (le32 b 0) → (182 ≤ length b) × (length b ≤ 678)
    go (a_scalar k n) = (omega (arith, g.size), omega (arith, g.size))
    go (a_corotational k n) = (omega (arith, g.size), omega (arith, g.size))
    go (a_neo_hookean k n) = (omega (arith, g.size), omega (arith, g.size))

points_length : (c : ℕ) (bs : List (List ℕ)) → Chain Point c bs → length (flatten bs) ≡ 30 * length bs
unfolding Chain flatten
points_length c [] g = refl
points_length c (b ∷ bs) g = length-append b (flatten bs) ∙ omega (arith, point_length c b g.0, points_length (le16 b 6) bs g.1)

rows_length : (c : ℕ) (bs : List (List ℕ)) → Chain Row c bs → length (flatten bs) ≤ 678 * length bs
unfolding Chain flatten
rows_length c [] g = omega arith
rows_length c (b ∷ bs) g = omega (arith, length-append b (flatten bs), row_length_lem c b g.0, rows_length (le16 b 6) bs g.1)

pub within_range : (s : List ℕ) → Whole s → InRange s
within_range s w =
    let p = head_passes s w in
    let v = head_values (record_at s 0) 0 (kind_record (head_shaped s p) ∙ (head_kind s p).0) (record_passed Head s 0 0 p).1 in
    let n = as_many (count_n s) s 26 in
    let m = as_many (count_r s) s (rows_at s) in
    let h16 : (k : ℕ) → k + 2 ≤ 26 → le16 (record_at s 0) k ≡ le16 s k =
    λ k h. le16_part s 0 (record_length s 0) k (omega (arith, (head_kind s p).1)) ∙ ap (le16 s) (omega arith) in
    let at : rows_at s ≡ 26 + 30 * count_n s = omega (arith, (points_built s w).1, points_length 0 (points s) w.good_points) in
    record {
      few_points = few_points s p;
      few_rows = few_rows s p;
      mode = omega (arith, v.mode, h16 14 (omega arith));
      resweeps = omega (arith, v.resweeps, h16 16 (omega arith));
      as_many_points = n;
      as_many_rows = m;
      rows_place = at;
      rows_fill = ends s w;
      short = omega (arith, few_points s p, few_rows s p, ends s w, (rows_built s w).1, rows_length 0 (rows s) w.good_rows);
    }
