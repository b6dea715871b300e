-- A row that stands in a frame: where its bytes are, and what the code may read and write there. Assumes nothing.
use Rattle.std.proofs.Common.{ℕ, ◌+◌, ◌*◌, ◌≤◌, ◌≡◌, sym, ap, ◌∙◌, subst, List, [], ◌∷◌, ◌++◌, append_assoc, arith, add-zero, length}
use Rattle.std.proofs.Common.{length-append}
use Rattle.little_endian.specs.Bytes.{le16, le32, part}
use Rattle.little_endian.proofs.Parts.{part_middle, le16_middle, le32_middle}
use Rattle.records.specs.Records.{record_length, record_at, flatten}
use Rattle.stored.specs.Points.{Points}
use Rattle.stored.specs.Sizes.{Alike, alike_length, alike_kind, Same, same_length}
use Rattle.floats.specs.Written.{AllWritten}
use Rattle.row.specs.Widths.{row_length}
use Rattle.points.specs.InFrame.{Sized, on_part}
use Rattle.points.proofs.Bridge.{length-points, on_part_middle}
use Rattle.sweep.specs.Laid.{RowSized, At, Standing}
use Rattle.row.proofs.ByKind.{long_row}

module _ {n off len : ℕ} {H : List ℕ} {ps : Points} {D b X s : List ℕ} (w : At n off len H ps D b X s) where
  regroup : (Y : List ℕ) → H ++ (flatten ps ++ (D ++ Y)) ≡ (H ++ (flatten ps ++ D)) ++ Y
  regroup Y = ap (H ++◌) (sym (append_assoc (flatten ps) D Y)) ∙ sym (append_assoc H (flatten ps ++ D) Y)

  front : length (H ++ (flatten ps ++ D)) ≡ off
  front = length-append H (flatten ps ++ D) ∙ omega (arith, length-append (flatten ps) D, length-points ps w.sized, w.head, w.many, w.place)

  grouped : s ≡ (H ++ (flatten ps ++ D)) ++ (b ++ X)
  grouped = w.bytes ∙ regroup (b ++ X)

  pub long_here : 182 ≤ length b
  long_here = long_row (le16 b 4) (length b) w.row.wide

  pub row_here : part off len s ≡ b
  row_here = (λ i. part off (sym w.long i) (grouped i)) ∙ part_middle (H ++ (flatten ps ++ D)) b X off front

  pub le16_here : (k : ℕ) → k + 2 ≤ length b → le16 s (off + k) ≡ le16 b k
  le16_here k h = ap (λ (l : List ℕ). le16 l (off + k)) grouped ∙ le16_middle (H ++ (flatten ps ++ D)) b X off front k h

  pub length-here : record_length s off ≡ len
  length-here =
      ap (4 +◌) (ap (le32 s) (sym (add-zero off)) ∙ ap (λ (l : List ℕ). le32 l (off + 0)) grouped ∙ le32_middle (H ++ (flatten ps ++ D)) b X off front 0 (omega (arith, long_here)))
      ∙ sym w.row.size ∙ w.long

  pub scalar_here : le16 s (off + 4) ≡ 3 → record_length s off ≡ 182
  scalar_here k = length-here ∙ sym w.long ∙ w.row.scalar (sym (le16_here 4 (omega (arith, long_here))) ∙ k)

  pub record_here : record_at s off ≡ b
  record_here = ap (λ (m : ℕ). part off m s) length-here ∙ row_here

  pub size_here : length s ≡ off + (len + length X)
  size_here = ap length grouped ∙ length-append (H ++ (flatten ps ++ D)) (b ++ X) ∙ omega (arith, front, length-append b X, w.long)

  -- the row made anew
  pub anew : (f : List ℕ → List ℕ) → on_part off len f s ≡ H ++ (flatten ps ++ (D ++ (f b ++ X)))
  anew f = (λ i. on_part off (sym w.long i) f (grouped i)) ∙ on_part_middle (H ++ (flatten ps ++ D)) b X off f front ∙ sym (regroup (f b ++ X))

-- what the code needs to know
pub record Room (n off len : ℕ) (s : List ℕ) : Type 0 where
  pub few : n ≤ 4096
  pub points : 26 + 30 * n ≤ length s
  pub end : off + len ≤ length s
  pub said : off + record_length s off ≤ length s
  pub long : 182 ≤ len
  pub wide : row_length (le16 (record_at s off) 4) ≤ length (record_at s off)

pub room : {n off len : ℕ} {s : List ℕ} → Standing n off len s → Room n off len s
room {n} {off} {len} {s} y =
    let w = y.at in
    record {
      few = y.few;
      points = omega (arith, size_here w, w.place);
      end = omega (arith, size_here w);
      said = omega (arith, size_here w, length-here w);
      long = omega (arith, long_here w, w.long);
      wide = subst (λ (b : List ℕ). row_length (le16 b 4) ≤ length b) (sym (record_here w)) w.row.wide;
    }

-- ---- sizes stay

pub sized_alike : (b c : List ℕ) → Alike b c → AllWritten b → RowSized c → RowSized b
sized_alike b c a y z = record {
  size = a.size ∙ z.size ∙ ap (4 +◌) (sym (alike_length b c a));
  wide = subst (λ (m : ℕ). row_length m ≤ length b) (sym (alike_kind b c a)) (subst (λ (l : ℕ). row_length (le16 c 4) ≤ l) (sym a.size) z.wide);
  scalar = λ k. a.size ∙ z.scalar (sym (alike_kind b c a) ∙ k);
  written = y;
}

pub sized_same : (ps qs : Points) → Same ps qs → Sized qs → Sized ps
unfolding Same Sized
sized_same [] [] x z = tt
sized_same [] (q ∷ qs) x z = absurd x
sized_same (p ∷ ps) [] x z = absurd x
sized_same (p ∷ ps) (q ∷ qs) x z = (x.0.size ∙ z.0, sized_same ps qs x.1 z.1)

-- the same place with another row and other points of the same sizes
pub still : {n off len : ℕ} {H : List ℕ} {ps : Points} {D b X s : List ℕ} → At n off len H ps D b X s → (ps' : Points) (b' s' : List ℕ)
    → Alike b' b → AllWritten b' → Same ps' ps → s' ≡ H ++ (flatten ps' ++ (D ++ (b' ++ X))) → At n off len H ps' D b' X s'
still {ps = ps} {b = b} w ps' b' s' a y q e = record {
  bytes = e;
  head = w.head;
  many = same_length ps' ps q ∙ w.many;
  sized = sized_same ps' ps q w.sized;
  place = w.place;
  long = a.size ∙ w.long;
  row = sized_alike b' b a y w.row;
}
