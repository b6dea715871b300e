-- What is put back as it was read leaves the same bytes, also after other puts beside it: the positions of places that are skipped, and the gradients that a distance row leaves. Assumes nothing.
use Rattle.std.proofs.Common.{ℕ, suc, ◌+◌, ◌<◌, ◌≤◌, ◌/◌, ◌%◌, ◌≡◌, refl, sym, ap, ◌∙◌, inr, Bool, true, false, cond, not, List, arith, eqb}
use Rattle.std.proofs.Common.{get_or, set, Float, Option, Some, None, is_some}
use Rattle.std.specs.Float.Ieee.{binary32, of_bits}
use Rattle.little_endian.specs.Bytes.{le32, f32_at, is_finite}
use Rattle.little_endian.proofs.Parts.{Bytes}
use Rattle.vector.specs.declared.Vec3.{Vec3}
use Rattle.vector.specs.declared.Four.{Four}
use Rattle.places.specs.Places.{Holds, held_or, refreshed}
use Rattle.gradients.specs.Gradients.{distance_gradients, compute_gradients}
use Rattle.gradients.specs.declared.Gradients.{Gradients}
use Rattle.records.specs.Layout as at
use Rattle.floats.specs.Fields.{vec3_at, four_at, put_vec3, put_four}
use Rattle.floats.proofs.Same.{Finite3, put_vec3_same, bytes_set, bytes_put_vec3}
use Rattle.stored.specs.Put.{put_flag}
use Rattle.unassigned.specs.Assigned.{floats, when, Out, Outside, positions, gradients}
use Rattle.unassigned.proofs.Beside.{outside_split, out_part, vec3_beside}

-- ---- bytes stay bytes

pub bytes_put_flag : (b : List ℕ) (i : ℕ) (t : Bool) → Bytes b → Bytes (put_flag b i t)
bytes_put_flag b i t y =
    let n : ℕ = cond t 1 0 in
    bytes_set (set b i (n % 256)) (suc i) (n / 256 % 256) (bytes_set b i (n % 256) y (omega arith)) (omega arith)

pub bytes_put_four : (b : List ℕ) (i : ℕ) (v : Four Vec3) → Bytes b → Bytes (put_four b i v)
unfolding put_four
bytes_put_four b i v y =
    bytes_put_vec3 _ (i + 36) v.d (bytes_put_vec3 _ (i + 24) v.c (bytes_put_vec3 _ (i + 12) v.b (bytes_put_vec3 b i v.a y)))

-- ---- c has the n bytes of b from i on

abbrev pub Agree : List ℕ → List ℕ → ℕ → ℕ → Type 0
Agree c b i n = (j : ℕ) → i ≤ j → j < i + n → get_or c j 0 ≡ get_or b j 0

module _ (c b : List ℕ) where
  pub agree_part : (i n j m : ℕ) → i ≤ j → j + m ≤ i + n → Agree c b i n → Agree c b j m
  agree_part i n j m l h a x p q = a x (omega arith) (omega arith)

  f32_agree : (i : ℕ) → Agree c b i 4 → f32_at c i ≡ f32_at b i
  unfolding le32
  f32_agree i a =
      let e0 = a i (omega arith) (omega arith) in
      let e1 = a (i + 1) (omega arith) (omega arith) in
      let e2 = a (i + 2) (omega arith) (omega arith) in
      let e3 = a (i + 3) (omega arith) (omega arith) in
      ap (of_bits binary32) (omega (arith, e0, e1, e2, e3))

  module _ (i : ℕ) (a : Agree c b i 12) where
    fx : f32_at c i ≡ f32_at b i
    fx = f32_agree i (agree_part i 12 i 4 (omega arith) (omega arith) a)

    fy : f32_at c (i + 4) ≡ f32_at b (i + 4)
    fy = f32_agree (i + 4) (agree_part i 12 (i + 4) 4 (omega arith) (omega arith) a)

    fz : f32_at c (i + 8) ≡ f32_at b (i + 8)
    fz = f32_agree (i + 8) (agree_part i 12 (i + 8) 4 (omega arith) (omega arith) a)

    vec3_agree : vec3_at c i ≡ vec3_at b i
    unfolding vec3_at
    vec3_agree = λ j. record { x = fx j; y = fy j; z = fz j }

    -- a vector that was read of b, put where c has the same bytes
    pub put_back : Bytes c → Finite3 b i → put_vec3 c i (vec3_at b i) ≡ c
    put_back y f =
        ap (put_vec3 c i) (sym vec3_agree)
        ∙ put_vec3_same c i y (record { x = ap is_finite fx ∙ f.x; y = ap is_finite fy ∙ f.y; z = ap is_finite fz ∙ f.z })

-- beside what is put, c still has the bytes of b
beside_agree : (c b : List ℕ) (i : ℕ) (v : Vec3) (j n : ℕ) → ((x : ℕ) → j ≤ x → x < j + n → Out x i 12) → Agree c b j n → Agree (put_vec3 c i v) b j n
beside_agree c b i v j n o a x p q = vec3_beside x c i v (o x p q) ∙ a x p q

-- ---- one place: the value that it is given, or the one that it had

module _ (k : ℕ) (b c : List ℕ) (i : ℕ) (a : Agree c b i 12) (y : Bytes c) (f : Finite3 b i) where
  pub given_or_had : (held : Option Vec3) → Outside k (when (is_some held) (floats i 3)) → get_or (put_vec3 c i (held_or held (vec3_at b i))) k 0 ≡ get_or c k 0
  given_or_had (Some v) o = vec3_beside k c i v o.0
  given_or_had None o = ap (λ (l : List ℕ). get_or l k 0) (put_back c b i a y f)

-- ---- four places

pub record Finite12 (r : List ℕ) (i : ℕ) : Type 0 where
  pub a : Finite3 r i
  pub b : Finite3 r (i + 12)
  pub c : Finite3 r (i + 24)
  pub d : Finite3 r (i + 36)

-- c1, c2 and c3 are c after one, two and three puts
module _ (b c : List ℕ) (i : ℕ) (v : Four Vec3) (a : Agree c b i 48) (y : Bytes c) where
  abbrev c1 : List ℕ
  c1 = put_vec3 c i v.a

  abbrev c2 : List ℕ
  c2 = put_vec3 c1 (i + 12) v.b

  abbrev c3 : List ℕ
  c3 = put_vec3 c2 (i + 24) v.c

  y1 : Bytes c1
  y1 = bytes_put_vec3 c i v.a y

  y2 : Bytes c2
  y2 = bytes_put_vec3 c1 (i + 12) v.b y1

  y3 : Bytes c3
  y3 = bytes_put_vec3 c2 (i + 24) v.c y2

  after1 : Agree c1 b (i + 12) 36
  after1 = beside_agree c b i v.a (i + 12) 36 (λ x p q. inr (omega arith)) (agree_part c b i 48 (i + 12) 36 (omega arith) (omega arith) a)

  after2 : Agree c2 b (i + 24) 24
  after2 = beside_agree c1 b (i + 12) v.b (i + 24) 24 (λ x p q. inr (omega arith)) (agree_part c1 b (i + 12) 36 (i + 24) 24 (omega arith) (omega arith) after1)

  -- so each still has the bytes of b where the next vector goes
  a0 : Agree c b i 12
  a0 = agree_part c b i 48 i 12 (omega arith) (omega arith) a

  a1 : Agree c1 b (i + 12) 12
  a1 = agree_part c1 b (i + 12) 36 (i + 12) 12 (omega arith) (omega arith) after1

  a2 : Agree c2 b (i + 24) 12
  a2 = agree_part c2 b (i + 24) 24 (i + 24) 12 (omega arith) (omega arith) after2

  a3 : Agree c3 b (i + 36) 12
  a3 = beside_agree c2 b (i + 24) v.c (i + 36) 12 (λ x p q. inr (omega arith)) (agree_part c2 b (i + 24) 24 (i + 36) 12 (omega arith) (omega arith) after2)

-- the positions: those that are fetched are assigned, the others stay
module _ (k : ℕ) (held : Holds) (b c : List ℕ) (a : Agree c b at.row_pos 48) (y : Bytes c) (f : Finite12 b at.row_pos) where
  pub positions_stay : Outside k (positions held) → get_or (put_four c at.row_pos (refreshed held (four_at b at.row_pos))) k 0 ≡ get_or c k 0
  unfolding positions put_four refreshed four_at
  positions_stay o =
      let v : Four Vec3 = refreshed held (four_at b at.row_pos) in
      let o1 = outside_split k (when (is_some held.a) (floats 30 3)) _ o in
      let o2 = outside_split k (when (is_some held.b) (floats 42 3)) _ o1.1 in
      let o3 = outside_split k (when (is_some held.c) (floats 54 3)) _ o2.1 in
      given_or_had k b (c3 b c 30 v a y) 66 (a3 b c 30 v a y) (y3 b c 30 v a y) f.d held.d o3.1
      ∙ given_or_had k b (c2 b c 30 v a y) 54 (a2 b c 30 v a y) (y2 b c 30 v a y) f.c held.c o3.0
      ∙ given_or_had k b (c1 b c 30 v a y) 42 (a1 b c 30 v a y) (y1 b c 30 v a y) f.b held.b o2.0
      ∙ given_or_had k b c 30 (a0 b c 30 v a y) y f.a held.a o1.0

-- the gradients: a distance row assigns the first two, and leaves the others
module _ (k : ℕ) (b c : List ℕ) (a : Agree c b at.scalar_grad 48) (y : Bytes c) (f : Finite12 b at.scalar_grad) where
  abbrev Stays : Four Vec3 → Type 0
  Stays g = get_or (put_four c at.scalar_grad g) k 0 ≡ get_or c k 0

  -- the first two assigned, and the others as they were
  two_assigned : (g : Four Vec3) → g.c ≡ vec3_at b (at.scalar_grad + 24) → g.d ≡ vec3_at b (at.scalar_grad + 36) → Out k at.scalar_grad 24 → Stays g
  unfolding put_four
  two_assigned g e3 e4 o =
      ap (λ (l : List ℕ). get_or l k 0) (ap (put_vec3 (c3 b c 94 g a y) 130) e4 ∙ put_back (c3 b c 94 g a y) b 130 (a3 b c 94 g a y) (y3 b c 94 g a y) f.d)
      ∙ ap (λ (l : List ℕ). get_or l k 0) (ap (put_vec3 (c2 b c 94 g a y) 118) e3 ∙ put_back (c2 b c 94 g a y) b 118 (a2 b c 94 g a y) (y2 b c 94 g a y) f.c)
      ∙ vec3_beside k (c1 b c 94 g a y) 106 g.b (out_part k 94 24 106 12 (omega arith) (omega arith) o)
      ∙ vec3_beside k c 94 g.a (out_part k 94 24 94 12 (omega arith) (omega arith) o)

  four_assigned : (g : Four Vec3) → Out k at.scalar_grad 24 → Out k (at.scalar_grad + 24) 24 → Stays g
  unfolding put_four
  four_assigned g o p =
      vec3_beside k (c3 b c 94 g a y) 130 g.d (out_part k 118 24 130 12 (omega arith) (omega arith) p)
      ∙ vec3_beside k (c2 b c 94 g a y) 118 g.c (out_part k 118 24 118 12 (omega arith) (omega arith) p)
      ∙ vec3_beside k (c1 b c 94 g a y) 106 g.b (out_part k 94 24 106 12 (omega arith) (omega arith) o)
      ∙ vec3_beside k c 94 g.a (out_part k 94 24 94 12 (omega arith) (omega arith) o)

  module _ (pos : Four Vec3) (rest : Float) where
    gradients_by : (t : Bool) (g : Gradients) → Out k at.scalar_grad 24 → Outside k (when (not t) (floats (at.scalar_grad + 24) 6))
        → Stays (cond t (distance_gradients pos (four_at b at.scalar_grad) rest) g).grad
    unfolding distance_gradients four_at
    gradients_by true g o p = two_assigned _ refl refl o
    gradients_by false g o p = four_assigned g.grad o p.0

    pub gradients_stay : (type : ℕ) → Outside k (gradients type) → Stays (compute_gradients type pos (four_at b at.scalar_grad) rest).grad
    unfolding gradients compute_gradients
    gradients_stay type o = gradients_by (eqb type 0) _ o.0 o.1
