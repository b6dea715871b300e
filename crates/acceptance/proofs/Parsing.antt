-- Records that pass their tests are good records, one after another; and such records pass. One induction each way serves points and rows. Records that are as long as they say are found again where they are laid one after another.
-- Assumes nothing.
use Rattle.std.proofs.Common.{ℕ, zero, suc, ◌+◌, ◌≤◌, ◌≡◌, refl, sym, ap, ◌∙◌, subst, List, [], ◌∷◌, ◌++◌, append_assoc, arith, add-zero}
use Rattle.std.proofs.Common.{length, drop, length-append, take-append-drop, drop-drop}
use Rattle.little_endian.specs.Bytes.{le16, le32, part}
use Rattle.little_endian.proofs.Parts.{le16_part, le32_part, part_middle, le16_middle, le32_middle}
use Rattle.records.specs.declared.Due.{Due}
use Rattle.records.specs.Answers.{Passed}
use Rattle.records.specs.Fields.{fields}
use Rattle.records.specs.Records.{is_due, record_length, record_at, record_tests, records_tests, records, end_of, flatten}
use Rattle.records.proofs.Firsts.{passed_split, passed_join}
use Rattle.records.proofs.ByKind.{Kind, due_kind}
use Rattle.records.proofs.Shapes.{Shaped, record_passed, record_passes, kind_of, longer, length-record, kind_record}
use Rattle.acceptance.specs.Whole.{Good, Chain}

-- ---- one record

pub good_kind : (w : Due) (c : ℕ) (b : List ℕ) → Good w c b → Kind w (le16 b 4) (le32 b 0)
good_kind w c b g = due_kind w (le16 b 4) (le32 b 0) g.due

module _ (w : Due) (s : List ℕ) (off c : ℕ) (p : Passed (record_tests w s off c)) where
  shape : Shaped w s off
  shape = (record_passed w s off c p).0

  len : le32 (record_at s off) 0 ≡ le32 s off
  len = le32_part s off (record_length s off) 0 (omega (arith, longer (kind_of shape))) ∙ ap (le32 s) (add-zero off)

  pub record_good : Good w c (record_at s off)
  record_good = record {
    size = length-record shape ∙ ap (4 +◌) (sym len);
    due = (λ i. is_due w (kind_record shape i) (len i)) ∙ shape.due;
    passed = (record_passed w s off c p).1;
  }

  pub record_there : off + record_length s off ≤ length s
  record_there = shape.whole

  pub record_colour : le16 (record_at s off) 6 ≡ le16 s (off + 6)
  record_colour = le16_part s off (record_length s off) 6 (omega (arith, longer (kind_of shape)))

-- ---- records that are as long as they say, whatever else they hold

abbrev pub Fits : List ℕ → Type 0
Fits b = length b ≡ record_length b 0

unfoldable pub AllFit : List (List ℕ) → Type 0
AllFit [] = Unit
AllFit (b ∷ bs) = Fits b × AllFit bs

-- in the middle of a frame
module _ (A b C : List ℕ) (off : ℕ) (e : length A ≡ off) (fits : Fits b) where
  pub length-in : record_length (A ++ (b ++ C)) off ≡ length b
  length-in = ap (4 +◌) (ap (le32 (A ++ (b ++ C))) (sym (add-zero off)) ∙ le32_middle A b C off e 0 (omega (arith, fits))) ∙ sym fits

  pub record_in : record_at (A ++ (b ++ C)) off ≡ b
  record_in = ap (λ (n : ℕ). part off n (A ++ (b ++ C))) length-in ∙ part_middle A b C off e

-- laid one after another they are found again
pub record Parted (bs : List (List ℕ)) (s : List ℕ) (off : ℕ) : Type 0 where
  pub same : records (length bs) s off ≡ bs
  pub end : end_of (length bs) s off ≡ off + length (flatten bs)

pub parted : (bs : List (List ℕ)) (A C s : List ℕ) (off : ℕ) → s ≡ A ++ (flatten bs ++ C) → length A ≡ off → AllFit bs → Parted bs s off
unfolding records end_of flatten AllFit
parted [] A C s off e l g = record { same = refl; end = sym (add-zero off) }
parted (b ∷ bs) A C s off e l g =
    let e' : s ≡ A ++ (b ++ (flatten bs ++ C)) = e ∙ ap (A ++◌) (append_assoc b (flatten bs) C) in
    let n : record_length s off ≡ length b = ap (λ (x : List ℕ). record_length x off) e' ∙ length-in A b (flatten bs ++ C) off l g.0 in
    let ih = parted bs (A ++ b) C s (off + record_length s off) (e' ∙ sym (append_assoc A b (flatten bs ++ C))) (length-append A b ∙ omega arith) g.1 in
    record {
      same = λ i. (ap (λ (x : List ℕ). record_at x off) e' ∙ record_in A b (flatten bs ++ C) off l g.0) i ∷ ih.same i;
      end = ih.end ∙ omega (arith, length-append b (flatten bs));
    }

pub chain_fits : (w : Due) (c : ℕ) (bs : List (List ℕ)) → Chain w c bs → AllFit bs
unfolding Chain AllFit
chain_fits w c [] g = tt
chain_fits w c (b ∷ bs) g = (g.0.size, chain_fits w (le16 b 6) bs g.1)

-- ---- good records in the middle of a frame

module _ (w : Due) (c : ℕ) (A b C : List ℕ) (off : ℕ) (e : length A ≡ off) (g : Good w c b) where
  long : 26 ≤ length b
  long = omega (arith, g.size, longer (good_kind w c b g))

  size : length (A ++ (b ++ C)) ≡ off + (length b + length C)
  size = length-append A (b ++ C) ∙ omega (arith, length-append b C)

  pub colour_in : le16 (A ++ (b ++ C)) (off + 6) ≡ le16 b 6
  colour_in = le16_middle A b C off e 6 (omega (arith, long))

  shape_in : Shaped w (A ++ (b ++ C)) off
  shape_in = record {
    six = omega (arith, size, long);
    due = (λ i. is_due w (le16_middle A b C off e 4 (omega (arith, long)) i) (len_in i)) ∙ g.due;
    whole = omega (arith, size, length-in A b C off e g.size);
  }
    where
      len_in : le32 (A ++ (b ++ C)) off ≡ le32 b 0
      len_in = omega (arith, length-in A b C off e g.size, g.size)

  pub passes_in : Passed (record_tests w (A ++ (b ++ C)) off c)
  passes_in = record_passes w (A ++ (b ++ C)) off c shape_in (subst (λ (l : List ℕ). Passed (fields l c)) (sym (record_in A b C off e g.size)) g.passed)

-- ---- records one after another

pub record Parsed (w : Due) (k : ℕ) (s : List ℕ) (off c : ℕ) : Type 0 where
  pub good : Chain w c (records k s off)
  pub inside : end_of k s off ≤ length s
  pub bytes : flatten (records k s off) ++ drop (end_of k s off) s ≡ drop off s

pub parse : (w : Due) (k : ℕ) (s : List ℕ) (off c : ℕ) → off ≤ length s → Passed (records_tests w k s off c) → Parsed w k s off c
unfolding records_tests records end_of flatten Chain
parse w zero s off c h p = record { good = tt; inside = h; bytes = refl }
parse w (suc k) s off c h p =
    let t = passed_split (record_tests w s off c) _ p in
    let ih = parse w k s (off + record_length s off) (le16 s (off + 6)) (record_there w s off c t.0) t.1 in
    record {
      good = (record_good w s off c t.0, subst (λ (x : ℕ). Chain w x (records k s (off + record_length s off))) (sym (record_colour w s off c t.0)) ih.good);
      inside = ih.inside;
      bytes =
          append_assoc (record_at s off) (flatten (records k s (off + record_length s off))) _
          ∙ ap (record_at s off ++◌) (ih.bytes ∙ sym (drop-drop (record_length s off) off s))
          ∙ take-append-drop (record_length s off) (drop off s);
    }

-- and so do good records, laid one after another
pub built : (w : Due) (bs : List (List ℕ)) (A C s : List ℕ) (off c : ℕ) → s ≡ A ++ (flatten bs ++ C) → length A ≡ off → Chain w c bs → Passed (records_tests w (length bs) s off c)
unfolding records_tests flatten Chain Passed
built w [] A C s off c e l g = tt
built w (b ∷ bs) A C s off c e l g =
    let e' : s ≡ A ++ (b ++ (flatten bs ++ C)) = e ∙ ap (A ++◌) (append_assoc b (flatten bs) C) in
    let n : record_length s off ≡ length b = ap (λ (x : List ℕ). record_length x off) e' ∙ length-in A b (flatten bs ++ C) off l g.0.size in
    let hue : le16 s (off + 6) ≡ le16 b 6 = ap (λ (x : List ℕ). le16 x (off + 6)) e' ∙ colour_in w c A b (flatten bs ++ C) off l g.0 in
    passed_join (record_tests w s off c) _ (subst (λ (x : List ℕ). Passed (record_tests w x off c)) (sym e') (passes_in w c A b (flatten bs ++ C) off l g.0))
    (built w bs (A ++ b) C s (off + record_length s off) (le16 s (off + 6)) (e' ∙ sym (append_assoc A b (flatten bs ++ C)))
    (length-append A b ∙ omega arith) (subst (λ (x : ℕ). Chain w x bs) (sym hue) g.1))

pub record Built (w : Due) (bs : List (List ℕ)) (s : List ℕ) (off c : ℕ) : Type 0 where
  pub passed : Passed (records_tests w (length bs) s off c)
  pub same : records (length bs) s off ≡ bs
  pub end : end_of (length bs) s off ≡ off + length (flatten bs)

pub build : (w : Due) (bs : List (List ℕ)) (A C s : List ℕ) (off c : ℕ) → s ≡ A ++ (flatten bs ++ C) → length A ≡ off → Chain w c bs → Built w bs s off c
build w bs A C s off c e l g =
    let p = parted bs A C s off e l (chain_fits w c bs g) in
    record { passed = built w bs A C s off c e l g; same = p.same; end = p.end }

pub as_many : (k : ℕ) (s : List ℕ) (off : ℕ) → length (records k s off) ≡ k
unfolding records
as_many zero s off = refl
as_many (suc k) s off = ap suc (as_many k s (off + record_length s off))
