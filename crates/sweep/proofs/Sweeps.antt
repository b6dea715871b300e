-- Laws of the loop over rows: a frame that is laid out stays so, and its rows and points are those of the rules. Assumes nothing.
use Rattle.std.proofs.Common.{ℕ, ◌+◌, ◌*◌, ◌≤◌, ◌<◌, ◌≡◌, refl, sym, ap, ◌∙◌, subst, Float, Option, Some, None, List, [], ◌∷◌, ◌++◌}
use Rattle.std.proofs.Common.{append_assoc, append-nil, arith, length, length-append}
use Rattle.little_endian.specs.Bytes.{le16}
use Rattle.records.specs.Records.{record_length, flatten}
use Rattle.relisting.specs.Steps.{sweep}
use Rattle.stored.specs.Points.{Points, update, warm}
use Rattle.stored.specs.Run.{lay}
use Rattle.stored.specs.Sizes.{Steady, then_steady, update_steady, warm_steady, solve_steady, resweep_steady, nothing_steady, sweep_rows}
use Rattle.stored.specs.Sizes.{sweep_points, same_length}
use Rattle.points.specs.InFrame.{Sized}
use Rattle.sweep.specs.Laid.{RowSized, RowsSized, At, Standing, Stepped, if_some, step_of, Laid, Ready, Swept}
use Rattle.sweep.specs.declared.Turn.{Turn}
use Rattle.sweep.specs.declared.Turn.TheVariants.{Main, Resweep}
use Rattle.sweep.proofs.Rooms.{long_here, length-here, size_here, scalar_here}

-- ---- lists of rows

flatten-snoc : (done : List (List ℕ)) (b : List ℕ) → flatten (done ++ (b ∷ [])) ≡ flatten done ++ b
unfolding flatten
flatten-snoc [] b = append-nil b
flatten-snoc (d ∷ done) b = ap (d ++◌) (flatten-snoc done b) ∙ sym (append_assoc d (flatten done) b)

sized_snoc : (done : List (List ℕ)) (b : List ℕ) → RowsSized done → RowSized b → RowsSized (done ++ (b ∷ []))
unfolding RowsSized
sized_snoc [] b f g = (g, tt)
sized_snoc (d ∷ done) b f g = (f.0, sized_snoc done b f.1 g)

append-none : (l : List (List ℕ)) → l ++ [] ≡ l
append-none [] = refl
append-none (r ∷ l) = ap (r ∷◌) (append-none l)

snoc_rows : (l : List (List ℕ)) (r : List ℕ) (m : List (List ℕ)) → (l ++ (r ∷ [])) ++ m ≡ l ++ (r ∷ m)
snoc_rows [] r m = refl
snoc_rows (x ∷ l) r m = ap (x ∷◌) (snoc_rows l r m)

-- ---- one sweep, for the rows and points x that the frame was laid out from

pub record Sweeping (t : Turn) (n : ℕ) (h : List ℕ) (x : List (List ℕ) × Points) (i : ℕ) (s : List ℕ) (off : ℕ) : Type 0 where
  pub done : List (List ℕ)
  pub rest : List (List ℕ)
  pub ps : Points
  pub bytes : s ≡ h ++ (flatten ps ++ (flatten done ++ flatten rest))
  pub head : length h ≡ 26
  pub many : length ps ≡ n
  pub sized : Sized ps
  pub place : off ≡ 26 + (30 * n + length (flatten done))
  pub count : i + length rest ≡ length x.0
  pub done_sized : RowsSized done
  pub rest_sized : RowsSized rest
  pub total : ◌≡◌ {A = List (List ℕ) × Points} (done ++ (sweep (step_of n t) rest ps).0, (sweep (step_of n t) rest ps).1) (sweep (step_of n t) x.0 x.1)

begins : (t : Turn) (n : ℕ) (s h : List ℕ) (x : List (List ℕ) × Points) → Laid s h x → length x.1 ≡ n → Sweeping t n h x 0 s (26 + 30 * n)
unfolding RowsSized flatten lay
begins t n s h x l m = record {
  done = [];
  rest = x.0;
  ps = x.1;
  bytes = l.bytes;
  head = l.head;
  many = m;
  sized = l.points;
  place = omega arith;
  count = omega arith;
  done_sized = tt;
  rest_sized = l.rows;
  total = refl;
}

module _ {t : Turn} {n : ℕ} {h : List ℕ} {x : List (List ℕ) × Points} {i : ℕ} {s : List ℕ} {off : ℕ} (w : Sweeping t n h x i s off) where
  -- the row that is next
  at_of : (b : List ℕ) (bs : List (List ℕ)) → w.rest ≡ b ∷ bs → (len : ℕ) → len ≡ length b → At n off len h w.ps (flatten w.done) b (flatten bs) s
  unfolding flatten RowsSized
  at_of b bs e len m = record {
    bytes = w.bytes ∙ ap (λ (q : List (List ℕ)). h ++ (flatten w.ps ++ (flatten w.done ++ flatten q))) e;
    head = w.head;
    many = w.many;
    sized = w.sized;
    place = w.place;
    long = sym m;
    row = (subst RowsSized e w.rest_sized).0;
  }

  len_of : (b : List ℕ) (bs : List (List ℕ)) → w.rest ≡ b ∷ bs → record_length s off ≡ length b
  len_of b bs e = length-here (at_of b bs e (length b) refl)

  next_of : (rest : List (List ℕ)) → w.rest ≡ rest → i < length x.0 → n ≤ 4096 → (len : ℕ) → len ≡ record_length s off → Standing n off len s
  next_of [] e l few len m = absurd (omega (arith, w.count, ap length e))
  next_of (b ∷ bs) e l few len m = record {
    few = few;
    H = h;
    ps = w.ps;
    D = flatten w.done;
    b = b;
    X = flatten bs;
    at = at_of b bs e len (m ∙ len_of b bs e);
  }

  -- six bytes and more are there
  room_of : (rest : List (List ℕ)) → w.rest ≡ rest → i < length x.0 → off + record_length s off ≤ length s
  room_of [] e l = absurd (omega (arith, w.count, ap length e))
  room_of (b ∷ bs) e l = let z = at_of b bs e (length b) refl in omega (arith, size_here z, length-here z)

  long_of : (rest : List (List ℕ)) → w.rest ≡ rest → i < length x.0 → 182 ≤ record_length s off
  long_of [] e l = absurd (omega (arith, w.count, ap length e))
  long_of (b ∷ bs) e l = let z = at_of b bs e (length b) refl in omega (arith, long_here z, length-here z)

  scalar_of_lem : (rest : List (List ℕ)) → w.rest ≡ rest → i < length x.0 → le16 s (off + 4) ≡ 3 → record_length s off ≡ 182
  scalar_of_lem [] e l k = absurd (omega (arith, w.count, ap length e))
  scalar_of_lem (b ∷ bs) e l k = scalar_here (at_of b bs e (length b) refl) k

  again_of : (rest : List (List ℕ)) → w.rest ≡ rest → i < length x.0 → (len : ℕ) (s' : List ℕ) → len ≡ record_length s off → Stepped (step_of n t) n off len s s'
      → Sweeping t n h x (i + 1) s' (off + len)
  unfolding flatten RowsSized
  again_of [] e l len s' m z = absurd (omega (arith, w.count, ap length e))
  again_of (b ∷ bs) e l len s' m z =
      let f = step_of n t in
      let D = flatten w.done in
      let y = f b w.ps in
      let a : At n off len h y.1 D y.0 (flatten bs) s' = z h w.ps D b (flatten bs) (at_of b bs e len (m ∙ len_of b bs e)) in
      let dd : flatten (w.done ++ (y.0 ∷ [])) ≡ D ++ y.0 = flatten-snoc w.done y.0 in
      let old : ◌≡◌ {A = List (List ℕ) × Points} (w.done ++ (sweep f w.rest w.ps).0, (sweep f w.rest w.ps).1) (sweep f x.0 x.1) = w.total in
      record {
        done = w.done ++ (y.0 ∷ []);
        rest = bs;
        ps = y.1;
        bytes = a.bytes ∙ ap (λ (q : List ℕ). h ++ (flatten y.1 ++ q)) (sym (append_assoc D y.0 (flatten bs)) ∙ ap (◌++ flatten bs) (sym dd));
        head = w.head;
        many = a.many;
        sized = a.sized;
        place = omega (arith, w.place, ap length dd, length-append D y.0, a.long);
        count = omega (arith, w.count, ap length e);
        done_sized = sized_snoc w.done y.0 w.done_sized a.row;
        rest_sized = (subst RowsSized e w.rest_sized).1;
        total = (λ j. (snoc_rows w.done y.0 (sweep f bs y.1).0 j, (sweep f bs y.1).1))
            ∙ ap {B = List (List ℕ) × Points} (λ (q : List (List ℕ)). (w.done ++ (sweep f q w.ps).0, (sweep f q w.ps).1)) (sym e) ∙ old;
      }

  ends_of : (rest : List (List ℕ)) → w.rest ≡ rest → length x.0 ≤ i → Laid s h (sweep (step_of n t) x.0 x.1)
  unfolding lay flatten
  ends_of (b ∷ bs) e l = absurd (omega (arith, w.count, ap length e))
  ends_of [] e l =
      let f = step_of n t in
      let fin : ◌≡◌ {A = List (List ℕ) × Points} (w.done, w.ps) (sweep f x.0 x.1) =
      (λ j. (sym (append-none w.done) j, w.ps))
      ∙ ap {B = List (List ℕ) × Points} (λ (q : List (List ℕ)). (w.done ++ (sweep f q w.ps).0, (sweep f q w.ps).1)) (sym e) ∙ w.total in
      subst (Laid s h) fin (record {
        bytes = w.bytes ∙ ap (λ (q : List (List ℕ)). h ++ (flatten w.ps ++ (flatten w.done ++ flatten q))) e
            ∙ ap (λ (q : List ℕ). h ++ (flatten w.ps ++ q)) (append-nil (flatten w.done));
        head = w.head;
        rows = w.done_sized;
        points = w.sized;
      })

-- ---- the loop, for whatever rows and points the frame was laid out from

abbrev pub Going : Turn → ℕ → ℕ → List ℕ → ℕ → List ℕ → ℕ → Type 0
Going t n r s₀ i s off = (h : List ℕ) (x : List (List ℕ) × Points) → Laid s₀ h x → length x.1 ≡ n → length x.0 ≡ r → Sweeping t n h x i s off

module _ (t : Turn) (n r : ℕ) (s₀ : List ℕ) where
  pub going_begins : Going t n r s₀ 0 s₀ (26 + 30 * n)
  going_begins h x l p q = begins t n s₀ h x l p

  module _ (i : ℕ) (s : List ℕ) (off : ℕ) (g : Going t n r s₀ i s off) where
    module _ (y : Ready n r s₀) where
      the : Sweeping t n y.h y.x i s off
      the = g y.h y.x y.laid y.size y.count

      pub going_behind : 26 + 30 * n ≤ off
      going_behind = omega (arith, the.place)

      pub going_room : i < r → off + record_length s off ≤ length s
      going_room l = room_of the the.rest refl (omega (arith, y.count))

      pub going_long : i < r → 182 ≤ record_length s off
      going_long l = long_of the the.rest refl (omega (arith, y.count))

      pub going_scalar : i < r → le16 s (off + 4) ≡ 3 → record_length s off ≡ 182
      going_scalar l k = scalar_of_lem the the.rest refl (omega (arith, y.count)) k

      pub going_stands : i < r → (len : ℕ) → len ≡ record_length s off → Standing n off len s
      going_stands l len m = next_of the the.rest refl (omega (arith, y.count)) y.few len m

    pub going_again : i < r → (len : ℕ) (s' : List ℕ) → len ≡ record_length s off → Stepped (step_of n t) n off len s s' → Going t n r s₀ (i + 1) s' (off + len)
    going_again l len s' m z h x a b c = let w = g h x a b c in again_of w w.rest refl (omega arith) len s' m z

    pub going_ends : r ≤ i → Swept t n r s₀ s
    going_ends l h x a b c = let w = g h x a b c in ends_of w w.rest refl (omega arith)

-- ---- a frame that is ready stays so

if_steady : (f : Float → List ℕ → Points → List ℕ × Points) → ((x : Float) → Steady (f x)) → (o : Option Float) → Steady (if_some f o)
if_steady f h (Some x) = h x
if_steady f h None = nothing_steady

pub step_steady : (n : ℕ) (t : Turn) → Steady (step_of n t)
step_steady n (Main p) =
    then_steady _ _ (then_steady _ _ (if_steady (update n) (update_steady n) p.update) (if_steady (warm n) (warm_steady n) p.warm)) (solve_steady n)
step_steady n Resweep = resweep_steady n

pub rows_many : (f : List ℕ → Points → List ℕ × Points) → Steady f → (bs : List (List ℕ)) (ps : Points) → length (sweep f bs ps).0 ≡ length bs
rows_many f z bs ps = same_length _ _ (sweep_rows f z bs ps)

pub points_many : (f : List ℕ → Points → List ℕ × Points) → Steady f → (bs : List (List ℕ)) (ps : Points) → length (sweep f bs ps).1 ≡ length ps
points_many f z bs ps = same_length _ _ (sweep_points f z bs ps)

pub swept_ready : (t : Turn) (n r : ℕ) (s s' : List ℕ) → Ready n r s → Swept t n r s s' → Ready n r s'
swept_ready t n r s s' y w = record {
  h = y.h;
  x = sweep (step_of n t) y.x.0 y.x.1;
  laid = w y.h y.x y.laid y.size y.count;
  size = points_many (step_of n t) (step_steady n t) y.x.0 y.x.1 ∙ y.size;
  count = rows_many (step_of n t) (step_steady n t) y.x.0 y.x.1 ∙ y.count;
  few = y.few;
  few_r = y.few_r;
}
