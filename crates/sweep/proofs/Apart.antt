-- A row's step where the velocities are set apart is its step in the frame that both stand for. Assumes nothing.
use Rattle.std.proofs.Common.{ℕ, ◌+◌, ◌*◌, ◌-◌, ◌≤◌, ◌<◌, ◌≡◌, refl, sym, ap, ◌∙◌, subst, List, Bool, true, false, cond, eqb, eqb-true}
use Rattle.std.proofs.Common.{arith, add-zero, Float, length, take, drop}
use Rattle.std.proofs.Math.Nat.{add-sub_cancel_left}
use Rattle.std.proofs.lemmas.Bool.{false≢true}
use Rattle.records.specs.Kinds.{row_kind}
use Rattle.records.specs.declared.kinds.RowKind.{RowKind}
use Rattle.records.specs.declared.kinds.RowKind.TheVariants.{Scalar, Corotational, NeoHookean}
use Rattle.vector.specs.declared.Vec3.{Vec3}
use Rattle.little_endian.specs.Bytes.{le16, le32, part}
use Rattle.little_endian.proofs.Parts.{le32_part, le16_part, length_part}
use Rattle.records.specs.Records.{record_length, record_at}
use Rattle.vector.specs.declared.Four.{Four}
use Rattle.places.specs.Places.{Holds, Ids}
use Rattle.row.specs.Widths.{row_length}
use Rattle.stored.specs.Phases.{names_at, update_row, warm_row, warm_loss, solve_row, solve_loss}
use Rattle.stored.specs.Points.{Points, position, update, warm, solve}
use Rattle.floats.specs.Written.{AllWritten}
use Rattle.points.specs.InFrame.{on_part, holds_in, taken}
use Rattle.points.specs.Apart.{moved, FitOf, holds_of, lost}
use Rattle.points.proofs.Moved.{length_moved, moved_part, moved_on_part, positions_moved, holds_apart, lost_apart}
use Rattle.sweep.specs.Laid.{Standing, Stepped, step_of, Ready, Swept}
use Rattle.sweep.specs.declared.Turn.{Turn}
use Rattle.sweep.proofs.InFrame.{Stands, on_record}
use Rattle.sweep.proofs.Rooms.{Room, room, size_here, length-here, record_here}
use Rattle.sweep.proofs.Steps.{updated, warmed, solved, stands, NamesStay}
use Rattle.sweep.proofs.Sweeps.{Going, going_behind, going_room, going_long, going_scalar}

-- ---- a row found by its kind

pub row_found : (off : ℕ) (s : List ℕ) → off + record_length s off ≤ length s → record_length s off ≡ 182
    → (take (off + 182 - off) (drop off s) ≡ record_at s off) × (length (take (off + 182 - off) (drop off s)) ≡ record_length s off)
row_found off s h e =
    let p : take (off + 182 - off) (drop off s) ≡ record_at s off = ap (λ (m : ℕ). take m (drop off s)) (add-sub_cancel_left off 182 ∙ sym e) in
    (p, ap length p ∙ length_part s off (record_length s off) h)

abbrev is_scalar : RowKind → Bool
is_scalar Scalar = true
is_scalar Corotational = false
is_scalar NeoHookean = false

-- the number of a scalar row, as it is read from the bytes from off on
pub scalar_said : (off : ℕ) (s : List ℕ) {k : RowKind} → off + 6 ≤ length s → k ≡ row_kind (le16 (take (length s - off) (drop off s)) 4) → k ≡ Scalar → le16 s (off + 4) ≡ 3
scalar_said off s h e z = sym (le16_part s off (length s - off) 4 (omega arith)) ∙ go (eqb n 3) refl (eqb n 4) (sym (ap is_scalar (sym e ∙ z)))
  where
    n : ℕ
    n = le16 (take (length s - off) (drop off s)) 4

    go : (t : Bool) → eqb n 3 ≡ t → (u : Bool) → true ≡ is_scalar (cond t Scalar (cond u Corotational NeoHookean)) → n ≡ 3
    go true q u p = eqb-true n 3 q
    go false q true p = absurd (false≢true (sym p))
    go false q false p = absurd (false≢true (sym p))

-- ---- what stands behind the points

module _ (n : ℕ) (v : List Vec3) (s : List ℕ) (off : ℕ) (h : 26 + 30 * n ≤ off) (k : off ≤ length s) where
  pub le32_moved : le32 (moved n v s) off ≡ le32 s off
  le32_moved =
      ap (le32 (moved n v s)) (sym (add-zero off)) ∙ sym (le32_part (moved n v s) off 4 0 (omega arith)) ∙ ap (λ (l : List ℕ). le32 l 0) (moved_part n v s off h k 4)
      ∙ le32_part s off 4 0 (omega arith) ∙ ap (le32 s) (add-zero off)

  pub length_at_moved : record_length (moved n v s) off ≡ record_length s off
  length_at_moved = ap (4 +◌) le32_moved

  pub record_moved : record_at (moved n v s) off ≡ record_at s off
  record_moved = ap (λ (m : ℕ). part off m (moved n v s)) length_at_moved ∙ moved_part n v s off h k (record_length s off)

  pub le16_moved : (m : ℕ) → m + 2 ≤ 182 → le16 (moved n v s) (off + m) ≡ le16 s (off + m)
  le16_moved m l = sym (le16_part (moved n v s) off 182 m l) ∙ ap (λ (q : List ℕ). le16 q m) (moved_part n v s off h k 182) ∙ le16_part s off 182 m l

module _ {n off len : ℕ} (v : List Vec3) (s : List ℕ) (y : Standing n off len (moved n v s)) where
  pub behind : 26 + 30 * n ≤ off
  behind = omega (arith, y.at.place)

  pub inside : off ≤ length s
  inside = omega (arith, size_here y.at, length_moved n v s)

  -- what the code needs to know of s itself
  pub room_apart : Room n off len s
  room_apart =
      let r = room y in
      let e = length_moved n v s in
      record {
        few = r.few;
        points = omega (arith, r.points, e);
        end = omega (arith, r.end, e);
        said = omega (arith, r.said, e, length_at_moved n v s off behind inside);
        long = r.long;
        wide = subst (λ (b : List ℕ). row_length (le16 b 4) ≤ length b) (record_moved n v s off behind inside) r.wide;
      }

  pub record_apart : record_at s off ≡ record_at (moved n v s) off
  record_apart = sym (record_moved n v s off behind inside)

  said_apart : record_length s off ≡ len
  said_apart = sym (length_at_moved n v s off behind inside) ∙ length-here y.at

  pub stands_apart : (e : ℕ) → e ≡ off + len → Stands off e s
  stands_apart e d = record {
    end = d ∙ ap (off +◌) (sym said_apart);
    inside = omega (arith, d, room_apart.end);
    wide = room_apart.wide;
    written = subst AllWritten (sym (record_here y.at) ∙ sym record_apart) y.at.row.written;
  }

  -- the record made anew is the part of len bytes made anew
  part_of : (f : List ℕ → List ℕ) → on_record off f s ≡ on_part off len f s
  part_of f = ap (λ (m : ℕ). on_part off m f s) said_apart

  record_of : record_at s off ≡ part off len s
  record_of = ap (λ (m : ℕ). part off m s) said_apart

  module _ (i : Ids) (names : i ≡ names_at (record_at s off)) where
    pub updated_apart : (least : Float) (held : Holds) (s' : List ℕ) → held ≡ holds_in position n s i → s' ≡ on_record off (update_row least held) s
        → AllWritten (update_row least held (record_at s off)) → Stepped (update n least) n off len (moved n v s) (moved n v s')
    updated_apart least held s' g h u =
        updated n off len (moved n v s) least (record_at s off) i held (moved n v s') record_apart names (g ∙ sym (positions_moved n v s room_apart.points i))
        (ap (moved n v) (h ∙ part_of (update_row least held)) ∙ moved_on_part n v s off behind inside len (update_row least held)) u

    module _ (k : n ≤ length v) (q : FitOf n v i) (s₁ : List ℕ) (p : 26 + 30 * n ≤ length s₁) (x : Four Vec3) (v' : List Vec3) (t : v' ≡ lost n v i x) where
      lost_here : moved n v' s₁ ≡ taken n (moved n v s₁) i x
      lost_here = ap (λ (u : List Vec3). moved n u s₁) t ∙ lost_apart n v i x k q s₁ p

      pub warmed_apart : (coeff : Float) → s₁ ≡ on_record off (warm_row coeff) s → x ≡ warm_loss coeff (record_at s off)
          → AllWritten (warm_row coeff (record_at s off)) → Stepped (warm n coeff) n off len (moved n v s) (moved n v' s₁)
      warmed_apart coeff g h u =
          warmed n off len (moved n v s) coeff (record_at s off) i x (moved n v s₁) (moved n v' s₁) record_apart names
          (ap (moved n v) (g ∙ part_of (warm_row coeff)) ∙ moved_on_part n v s off behind inside len (warm_row coeff))
          (h ∙ ap (warm_loss coeff) (record_of ∙ sym (moved_part n v s off behind inside len))) lost_here u

      pub solved_apart : (vel : Holds) → vel ≡ holds_of n v i → s₁ ≡ on_record off (solve_row vel) s → x ≡ solve_loss vel (record_at s off)
          → AllWritten (solve_row vel (record_at s off)) → Stepped (solve n) n off len (moved n v s) (moved n v' s₁)
      solved_apart vel d g h u =
          solved n off len (moved n v s) (record_at s off) i vel x (moved n v s₁) (moved n v' s₁) record_apart names
          (d ∙ holds_apart n v s room_apart.points i q)
          (ap (moved n v) (g ∙ part_of (solve_row vel)) ∙ moved_on_part n v s off behind inside len (solve_row vel))
          (h ∙ ap (solve_loss vel) (record_of ∙ sym (moved_part n v s off behind inside len))) lost_here u

-- the names after a step that leaves them
pub names_after : {n off len : ℕ} (v : List Vec3) (s : List ℕ) → Standing n off len (moved n v s) → (i : Ids) → i ≡ names_at (record_at s off)
    → (f : List ℕ → Points → List ℕ × Points) → NamesStay f → (v' : List Vec3) (s' : List ℕ) → Stepped f n off len (moved n v s) (moved n v' s')
    → i ≡ names_at (record_at s' off)
names_after {n} {off} {len} v s y i names f stay v' s' z =
    let y' : Standing n off len (moved n v' s') = stands n off len f (moved n v s) (moved n v' s') y z in
    names
    ∙ ap names_at (record_apart v s y ∙ record_here y.at)
    ∙ sym (stay y.b y.ps)
    ∙ ap names_at (sym (record_here (z y.H y.ps y.D y.b y.X y.at)) ∙ sym (record_apart v' s' y'))

-- ---- as many velocities as before

module _ {n m : ℕ} (e : m ≡ n) where
  pub recounted : (f : List ℕ → Points → List ℕ × Points) {off len : ℕ} {M : List ℕ} (v : List Vec3) (s : List ℕ) → Stepped f n off len M (moved n v s) → Stepped f n off len M (moved m v s)
  recounted f {off} {len} {M} v s = subst (λ (k : ℕ). Stepped f n off len M (moved k v s)) (sym e)

  pub standing_at : {off len : ℕ} (v : List Vec3) (s : List ℕ) → Standing n off len (moved n v s) → Standing m off len (moved m v s)
  standing_at {off} {len} v s = subst (λ (k : ℕ). Standing k off len (moved k v s)) (sym e)

  pub ready_at : {r : ℕ} (v : List Vec3) (s : List ℕ) → Ready n r (moved n v s) → Ready m r (moved m v s)
  ready_at {r} v s = subst (λ (k : ℕ). Ready k r (moved k v s)) (sym e)

  module _ {l : ℕ} (d : l ≡ m) (t : Turn) (v : List Vec3) (s : List ℕ) (v' : List Vec3) (s' : List ℕ) where
    pub stepped_at : {off len : ℕ} → Stepped (step_of m t) m off len (moved m v s) (moved l v' s') → Stepped (step_of n t) n off len (moved n v s) (moved n v' s')
    stepped_at {off} {len} z =
        subst (λ (k : ℕ). Stepped (step_of k t) k off len (moved k v s) (moved k v' s')) e
        (subst (λ (k : ℕ). Stepped (step_of m t) m off len (moved m v s) (moved k v' s')) d z)

    pub swept_at : {r : ℕ} → Swept t m r (moved m v s) (moved l v' s') → Swept t n r (moved n v s) (moved n v' s')
    swept_at {r} z =
        subst (λ (k : ℕ). Swept t k r (moved k v s) (moved k v' s')) e
        (subst (λ (k : ℕ). Swept t m r (moved m v s) (moved k v' s')) d z)

-- the row stands there still, with its names, after a step that leaves them
pub stood_anew : {n m off len : ℕ} (v : List Vec3) (s : List ℕ) → Standing n off len (moved n v s) → (i : Ids) → i ≡ names_at (record_at s off)
    → (f : List ℕ → Points → List ℕ × Points) → NamesStay f → (v' : List Vec3) (s' : List ℕ) → m ≡ n → Stepped f n off len (moved n v s) (moved m v' s')
    → Standing m off len (moved m v' s') × (i ≡ names_at (record_at s' off))
stood_anew {n} {m} {off} {len} v s y i names f stay v' s' e z =
    let z' : Stepped f n off len (moved n v s) (moved n v' s') = subst (λ (k : ℕ). Stepped f n off len (moved n v s) (moved k v' s')) e z in
    (standing_at e v' s' (stands n off len f (moved n v s) (moved n v' s') y z'), names_after v s y i names f stay v' s' z')

-- ---- a turn of the loop over rows

module _ (t : Turn) (n r : ℕ) (M₀ : List ℕ) (i : ℕ) (v : List Vec3) (s : List ℕ) (off : ℕ) (g : Going t n r M₀ i (moved n v s) off) (y : Ready n r M₀) (l : i < r) where
  front_of : 26 + 30 * n ≤ off
  front_of = going_behind t n r M₀ i (moved n v s) off g y

  within : off ≤ length s
  within = omega (arith, going_room t n r M₀ i (moved n v s) off g y l, length_moved n v s)

  pub turn_room : off + (4 + le32 s off) ≤ length s
  turn_room = omega (arith, going_room t n r M₀ i (moved n v s) off g y l, length_moved n v s, length_at_moved n v s off front_of within)

  pub turn_long : 182 ≤ 4 + le32 s off
  turn_long = omega (arith, going_long t n r M₀ i (moved n v s) off g y l, length_at_moved n v s off front_of within)

  pub turn_scalar : le16 s (off + 4) ≡ 3 → 4 + le32 s off ≡ 182
  turn_scalar k =
      sym (length_at_moved n v s off front_of within)
      ∙ going_scalar t n r M₀ i (moved n v s) off g y l (le16_moved n v s off front_of within 4 (omega arith) ∙ k)

  pub turn_says : (m : ℕ) → m ≡ 4 + le32 s off → m ≡ record_length (moved n v s) off
  turn_says m e = e ∙ ap (4 +◌) (sym (le32_moved n v s off front_of within))
