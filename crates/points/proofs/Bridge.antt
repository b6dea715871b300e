-- Fetching from points in a frame, and taking from them, is fetching and taking in a list of points. Assumes nothing.
use Rattle.std.proofs.Common.{ℕ, zero, suc, ◌+◌, ◌*◌, ◌≤◌, ◌<◌, ◌≡◌, refl, sym, ap, ◌∙◌, Bool, true, false, cond, List, [], ◌∷◌, ◌++◌}
use Rattle.std.proofs.Common.{append_assoc, arith, add-zero, not-suc-le-zero, le_of_suc-le-suc, ltb, length, drop, length-append, take_at}
use Rattle.std.proofs.Common.{drop_at, ltb-true, ltb-false}
use Rattle.std.proofs.Math.ListN.{get_elem?}
use Rattle.std.proofs.Math.Option.{none}
use Rattle.little_endian.specs.Bytes.{part}
use Rattle.little_endian.proofs.Parts.{part_middle}
use Rattle.records.specs.Records.{flatten}
use Rattle.relisting.specs.Steps.{fetch, alter, alters}
use Rattle.vector.specs.Vector.{zero_vector}
use Rattle.vector.specs.declared.Vec3.{Vec3}
use Rattle.vector.specs.declared.Four.{Four}
use Rattle.places.specs.Places.{Ids}
use Rattle.rows.specs.Row.{places, value_of, held_at, holds_of, keep_if, loss_of, losses_of, four}
use Rattle.stored.specs.Points.{lose}
use Rattle.points.specs.InFrame.{Sized, on_part, point_in, named, held_in, holds_in, taken_at, taken}

pub length-points : (ps : List (List ℕ)) → Sized ps → length (flatten ps) ≡ 30 * length ps
unfolding flatten Sized
length-points [] z = refl
length-points (p ∷ ps) z = length-append p (flatten ps) ∙ omega (arith, z.0, length-points ps z.1)

-- the middle one of three parts made anew
pub on_part_middle : (A r B : List ℕ) (off : ℕ) (f : List ℕ → List ℕ) → length A ≡ off → on_part off (length r) f (A ++ (r ++ B)) ≡ A ++ (f r ++ B)
on_part_middle A r B off f e =
    let d : drop (off + length r) (A ++ (r ++ B)) ≡ B =
    ap (drop (off + length r)) (sym (append_assoc A r B)) ∙ drop_at (A ++ r) B (off + length r) (length-append A r ∙ omega arith) in
    simp (take_at A (r ++ B) off e, drop_at A (r ++ B) off e, take_at r B (length r) refl, d)

-- ---- fetch

-- one point further on
further : (o j : ℕ) → o + 30 * suc j ≡ o + 30 + 30 * j
further o j = omega arith

-- the list with its first point set apart
apart : (A p : List ℕ) (ps : List (List ℕ)) (B : List ℕ) → A ++ ((p ++ flatten ps) ++ B) ≡ A ++ (p ++ (flatten ps ++ B))
apart A p ps B = ap (A ++◌) (append_assoc p (flatten ps) B)

behind : (A p : List ℕ) (ps : List (List ℕ)) (B : List ℕ) → A ++ ((p ++ flatten ps) ++ B) ≡ (A ++ p) ++ (flatten ps ++ B)
behind A p ps B = apart A p ps B ∙ sym (append_assoc A p (flatten ps ++ B))

module _ (what : List ℕ → Vec3) where
  point_here : (ps : List (List ℕ)) (A B : List ℕ) (off i : ℕ) → length A ≡ off → Sized ps → i < length ps
      → what (part (off + 30 * i) 30 (A ++ (flatten ps ++ B))) ≡ value_of what (get_elem? ps i)
  unfolding flatten Sized
  point_here [] A B off i e z h = absurd (not-suc-le-zero h)
  point_here (p ∷ ps) A B off zero e z h =
      ap what
      (ap (part (off + 0) 30) (apart A p ps B)
      ∙ ap (λ (n : ℕ). part n 30 (A ++ (p ++ (flatten ps ++ B)))) (add-zero off)
      ∙ ap (λ (n : ℕ). part off n (A ++ (p ++ (flatten ps ++ B)))) (sym z.0)
      ∙ part_middle A p (flatten ps ++ B) off e)
  point_here (p ∷ ps) A B off (suc i) e z h =
      ap (λ (l : List ℕ). what (part (off + 30 * suc i) 30 l)) (behind A p ps B)
      ∙ ap (λ (n : ℕ). what (part n 30 ((A ++ p) ++ (flatten ps ++ B)))) (further off i)
      ∙ point_here ps (A ++ p) B (off + 30) i (length-append A p ∙ omega (arith, z.0)) z.1 (le_of_suc-le-suc h)

none_there : (ps : List (List ℕ)) (i : ℕ) → length ps ≤ i → get_elem? ps i ≡ none
none_there [] i h = refl
none_there (p ∷ ps) zero h = absurd (not-suc-le-zero h)
none_there (p ∷ ps) (suc i) h = none_there ps i (le_of_suc-le-suc h)

-- ---- alter

take-here : (x : Vec3) (ps : List (List ℕ)) (A B : List ℕ) (off i : ℕ) → length A ≡ off → Sized ps → i < length ps
    → on_part (off + 30 * i) 30 (lose x) (A ++ (flatten ps ++ B)) ≡ A ++ (flatten (alter ps i (lose x)) ++ B)
unfolding flatten Sized
take-here x [] A B off i e z h = absurd (not-suc-le-zero h)
take-here x (p ∷ ps) A B off zero e z h =
    ap (on_part (off + 0) 30 (lose x)) (apart A p ps B)
    ∙ ap (λ (n : ℕ). on_part n 30 (lose x) (A ++ (p ++ (flatten ps ++ B)))) (add-zero off)
    ∙ ap (λ (n : ℕ). on_part off n (lose x) (A ++ (p ++ (flatten ps ++ B)))) (sym z.0)
    ∙ on_part_middle A p (flatten ps ++ B) off (lose x) e
    ∙ sym (apart A (lose x p) ps B)
take-here x (p ∷ ps) A B off (suc i) e z h =
    ap (on_part (off + 30 * suc i) 30 (lose x)) (behind A p ps B)
    ∙ ap (λ (n : ℕ). on_part n 30 (lose x) ((A ++ p) ++ (flatten ps ++ B))) (further off i)
    ∙ take-here x ps (A ++ p) B (off + 30) i (length-append A p ∙ omega (arith, z.0)) z.1 (le_of_suc-le-suc h)
    ∙ sym (behind A p (alter ps i (lose x)) B)

-- the points after one loss, where it is in range
abbrev pub lost_at : ℕ → List (List ℕ) → ℕ → Vec3 → List (List ℕ)
lost_at N ps i x = cond (ltb i N) (alter ps i (lose x)) ps

length-alter : (ps : List (List ℕ)) (i : ℕ) (h : List ℕ → List ℕ) → length (alter ps i h) ≡ length ps
length-alter [] i h = refl
length-alter (p ∷ ps) zero h = refl
length-alter (p ∷ ps) (suc i) h = ap suc (length-alter ps i h)

module _ (lose-size : (x : Vec3) (p : List ℕ) → length (lose x p) ≡ length p) where
  sized_alter : (ps : List (List ℕ)) (i : ℕ) (x : Vec3) → Sized ps → Sized (alter ps i (lose x))
  unfolding Sized
  sized_alter [] i x z = tt
  sized_alter (p ∷ ps) zero x z = (lose-size x p ∙ z.0, z.1)
  sized_alter (p ∷ ps) (suc i) x z = (z.0, sized_alter ps i x z.1)

  sized_lost : (N : ℕ) (ps : List (List ℕ)) (i : ℕ) (x : Vec3) → Sized ps → Sized (lost_at N ps i x)
  sized_lost N ps i x z = go (ltb i N)
    where
      go : (t : Bool) → Sized (cond t (alter ps i (lose x)) ps)
      go true = sized_alter ps i x z
      go false = z

length-lost : (N : ℕ) (ps : List (List ℕ)) (i : ℕ) (x : Vec3) → length (lost_at N ps i x) ≡ length ps
length-lost N ps i x = go (ltb i N)
  where
    go : (t : Bool) → length (cond t (alter ps i (lose x)) ps) ≡ length ps
    go true = length-alter ps i (lose x)
    go false = refl

-- one loss of a list, taken first
first_lost : (N i : ℕ) (x : Vec3) (cs : List (ℕ × Vec3)) (ps : List (List ℕ)) → alters lose (loss_of N i x cs) ps ≡ alters lose cs (lost_at N ps i x)
first_lost N i x cs ps = go (ltb i N)
  where
    go : (t : Bool) → alters lose (keep_if t (i, x) cs) ps ≡ alters lose cs (cond t (alter ps i (lose x)) ps)
    go true = refl
    go false = refl

-- the points after four losses
abbrev pub lost_four : ℕ → List (List ℕ) → Ids → Four Vec3 → List (List ℕ)
lost_four N ps i x = lost_at N (lost_at N (lost_at N (lost_at N ps i.a x.a) i.b x.b) i.c x.c) i.d x.d

pub losses_are : (N : ℕ) (i : Ids) (x : Four Vec3) (ps : List (List ℕ)) → alters lose (losses_of N (places i) (four x)) ps ≡ lost_four N ps i x
losses_are N i x ps =
    first_lost N i.a x.a (loss_of N i.b x.b (loss_of N i.c x.c (loss_of N i.d x.d []))) ps
    ∙ first_lost N i.b x.b (loss_of N i.c x.c (loss_of N i.d x.d [])) (lost_at N ps i.a x.a)
    ∙ first_lost N i.c x.c (loss_of N i.d x.d []) (lost_at N (lost_at N ps i.a x.a) i.b x.b)
    ∙ first_lost N i.d x.d [] (lost_at N (lost_at N (lost_at N ps i.a x.a) i.b x.b) i.c x.c)

-- ---- a frame: a head of 26 bytes, N points, and whatever follows

module _ (H : List ℕ) (e : length H ≡ 26) (N : ℕ) where
  held_bridge : (what : List ℕ → Vec3) (ps : List (List ℕ)) (B : List ℕ) (i : ℕ) → length ps ≡ N → Sized ps
      → held_in what N (H ++ (flatten ps ++ B)) i ≡ held_at what i (get_elem? ps i)
  unfolding held_in
  held_bridge what ps B i n z = ap (named i) (go (ltb i N) refl)
    where
      go : (t : Bool) → ltb i N ≡ t → cond t (what (point_in (H ++ (flatten ps ++ B)) i)) zero_vector ≡ value_of what (get_elem? ps i)
      go true q = point_here what ps H B 26 i e z (omega (arith, ltb-true i N q))
      go false q = ap (value_of what) (sym (none_there ps i (omega (arith, ltb-false i N q))))

  pub holds_bridge : (what : List ℕ → Vec3) (ps : List (List ℕ)) (B : List ℕ) (i : Ids) → length ps ≡ N → Sized ps
      → holds_in what N (H ++ (flatten ps ++ B)) i ≡ holds_of what (places i) (fetch (places i) ps)
  unfolding holds_in holds_of
  holds_bridge what ps B i n z = λ j. record {
    a = held_bridge what ps B i.a n z j;
    b = held_bridge what ps B i.b n z j;
    c = held_bridge what ps B i.c n z j;
    d = held_bridge what ps B i.d n z j;
  }

  taken_at_bridge : (ps : List (List ℕ)) (B : List ℕ) (i : ℕ) (x : Vec3) → length ps ≡ N → Sized ps
      → taken_at N (H ++ (flatten ps ++ B)) i x ≡ H ++ (flatten (lost_at N ps i x) ++ B)
  unfolding taken_at
  taken_at_bridge ps B i x n z = go (ltb i N) refl
    where
      go : (t : Bool) → ltb i N ≡ t → cond t (on_part (26 + 30 * i) 30 (lose x) (H ++ (flatten ps ++ B))) (H ++ (flatten ps ++ B)) ≡ H ++ (flatten (cond t (alter ps i (lose x)) ps) ++ B)
      go true q = take-here x ps H B 26 i e z (omega (arith, ltb-true i N q))
      go false q = refl

  pub taken_bridge : ((x : Vec3) (p : List ℕ) → length (lose x p) ≡ length p) → (ps : List (List ℕ)) (B : List ℕ) (i : Ids) (x : Four Vec3) → length ps ≡ N → Sized ps
      → taken N (H ++ (flatten ps ++ B)) i x ≡ H ++ (flatten (alters lose (losses_of N (places i) (four x)) ps) ++ B)
  unfolding taken
  taken_bridge keeps ps B i x n z =
      let p1 = lost_at N ps i.a x.a in
      let p2 = lost_at N p1 i.b x.b in
      let p3 = lost_at N p2 i.c x.c in
      let z1 = sized_lost keeps N ps i.a x.a z in
      let z2 = sized_lost keeps N p1 i.b x.b z1 in
      let z3 = sized_lost keeps N p2 i.c x.c z2 in
      let n1 = length-lost N ps i.a x.a ∙ n in
      let n2 = length-lost N p1 i.b x.b ∙ n1 in
      let n3 = length-lost N p2 i.c x.c ∙ n2 in
      ap (λ (s : List ℕ). taken_at N (taken_at N (taken_at N s i.b x.b) i.c x.c) i.d x.d) (taken_at_bridge ps B i.a x.a n z)
      ∙ ap (λ (s : List ℕ). taken_at N (taken_at N s i.c x.c) i.d x.d) (taken_at_bridge p1 B i.b x.b n1 z1)
      ∙ ap (λ (s : List ℕ). taken_at N s i.d x.d) (taken_at_bridge p2 B i.c x.c n2 z2)
      ∙ taken_at_bridge p3 B i.d x.d n3 z3
      ∙ ap (λ (l : List (List ℕ)). H ++ (flatten l ++ B)) (sym (losses_are N i x ps))
