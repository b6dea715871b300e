-- Laws of a frame whose velocities are set apart: its rows are where they are, and fetching and taking apart is fetching and taking in it. Assumes nothing.
use Rattle.std.proofs.Common.{ℕ, zero, suc, ◌+◌, ◌*◌, ◌≤◌, ◌<◌, ◌≡◌, refl, sym, ap, ◌∙◌, subst, Bool, true, false, cond, ◌⊎◌, inl, inr}
use Rattle.std.proofs.Common.{List, [], ◌∷◌, ◌++◌, arith, add-zero, add-one, ltb, length, set, take, drop, take-append-drop, length-set}
use Rattle.std.proofs.Common.{set-set, length-take-le, take_at, drop_at, drop-drop, get_or-set_same, get_or-set_other, below_more, ltb-true}
use Rattle.std.proofs.Common.{ltb-false}
use Rattle.std.specs.Float.Ieee.{binary32, of_bits}
use Rattle.std.proofs.lemmas.List.{set_comm}
use Rattle.std.proofs.lemmas.List.Edits.{sets}
use Rattle.std.specs.Float.Ieee.Fits.{sub-fits}
use Rattle.little_endian.specs.Bytes.{f32_at, f32_bytes, part}
use Rattle.little_endian.proofs.Parts.{Bytes, le32_part, length_part}
use Rattle.little_endian.proofs.Patch.{sets-left, sets-middle, sets-comm, f32_back, Beside, le32_beside}
use Rattle.vector.specs.declared.Vec3.{Vec3}
use Rattle.vector.specs.declared.Four.{Four}
use Rattle.vector.specs.Vector.{sub, zero_vector}
use Rattle.places.specs.Places.{Ids}
use Rattle.floats.specs.Fields.{vec3_at, put_f32, put_vec3}
use Rattle.floats.proofs.Lengths.{length-put_f32, length-put_vec3}
use Rattle.floats.proofs.Same.{Finite3, put_vec3_same, vec3_beside}
use Rattle.stored.specs.Points.{lose, position, velocity}
use Rattle.points.specs.InFrame.{on_part, place_of, point_in, named, held_in, holds_in, taken_at, taken}
use Rattle.points.specs.Apart.{velocity_at, no_vector, vec_of, set_vec, moved, Fit3, FitAt, FitOf, Apart, held_of, holds_of, lost_at, lost}

-- ---- a vector put is twelve bytes set

sets-append : (vs ws l : List ℕ) (i : ℕ) → sets l i (vs ++ ws) ≡ sets (sets l i vs) (i + length vs) ws
sets-append [] ws l i = ap (λ (n : ℕ). sets l n ws) (sym (add-zero i))
sets-append (a ∷ vs) ws l i =
    sets-append vs ws (set l i a) (suc i) ∙ ap (λ (n : ℕ). sets (sets (set l i a) (suc i) vs) n ws) (omega arith)

abbrev vec_bytes : Vec3 → List ℕ
vec_bytes w = f32_bytes w.x ++ (f32_bytes w.y ++ f32_bytes w.z)

put_as : (b : List ℕ) (k : ℕ) (w : Vec3) → put_vec3 b k w ≡ sets b k (vec_bytes w)
unfolding put_vec3
put_as b k w =
    let e : k + 8 ≡ k + 4 + 4 = omega arith in
    ap (λ (n : ℕ). put_f32 (put_f32 (put_f32 b k w.x) (k + 4) w.y) n w.z) e
    ∙ sym (sets-append (f32_bytes w.x) (f32_bytes w.y ++ f32_bytes w.z) b k ∙ sets-append (f32_bytes w.y) (f32_bytes w.z) (put_f32 b k w.x) (k + 4))

set-sets : (ws l : List ℕ) (i j a : ℕ) → i < j → sets (set l i a) j ws ≡ set (sets l j ws) i a
set-sets [] l i j a h = refl
set-sets (b ∷ ws) l i j a h = ap (λ (x : List ℕ). sets x (suc j) ws) (set_comm l i j a b (λ e. omega arith)) ∙ set-sets ws (set l j b) i (suc j) a (omega arith)

-- set twice
sets_over : (vs ws l : List ℕ) (i : ℕ) → length vs ≡ length ws → sets (sets l i vs) i ws ≡ sets l i ws
sets_over [] [] l i e = refl
sets_over [] (b ∷ ws) l i e = absurd (omega (arith, e))
sets_over (a ∷ vs) [] l i e = absurd (omega (arith, e))
sets_over (a ∷ vs) (b ∷ ws) l i e =
    ap (λ (x : List ℕ). sets x (suc i) ws) (sym (set-sets vs (set l i a) i (suc i) b (omega arith)) ∙ ap (λ (x : List ℕ). sets x (suc i) vs) (set-set l i a b))
    ∙ sets_over vs ws (set l i b) (suc i) (omega (arith, e))

put_over : (b : List ℕ) (k : ℕ) (w u : Vec3) → put_vec3 (put_vec3 b k w) k u ≡ put_vec3 b k u
put_over b k w u =
    put_as (put_vec3 b k w) k u ∙ ap (λ (l : List ℕ). sets l k (vec_bytes u)) (put_as b k w) ∙ sets_over (vec_bytes w) (vec_bytes u) b k refl ∙ sym (put_as b k u)

put_comm : (b : List ℕ) (i j : ℕ) (w u : Vec3) → i + 12 ≤ j → put_vec3 (put_vec3 b i w) j u ≡ put_vec3 (put_vec3 b j u) i w
put_comm b i j w u h =
    put_as (put_vec3 b i w) j u
    ∙ ap (λ (l : List ℕ). sets l j (vec_bytes u)) (put_as b i w)
    ∙ sets-comm (vec_bytes w) (vec_bytes u) b i j h
    ∙ ap (λ (l : List ℕ). sets l i (vec_bytes w)) (sym (put_as b j u))
    ∙ sym (put_as (put_vec3 b j u) i w)

put_left : (A B : List ℕ) (k : ℕ) (w : Vec3) → k + 12 ≤ length A → put_vec3 (A ++ B) k w ≡ put_vec3 A k w ++ B
put_left A B k w h = put_as (A ++ B) k w ∙ sets-left (vec_bytes w) A B k h ∙ ap (◌++ B) (sym (put_as A k w))

put_middle : (A r B : List ℕ) (off k : ℕ) (w : Vec3) → length A ≡ off → k + 12 ≤ length r → put_vec3 (A ++ (r ++ B)) (off + k) w ≡ A ++ (put_vec3 r k w ++ B)
put_middle A r B off k w e h =
    put_as (A ++ (r ++ B)) (off + k) w ∙ sets-middle (vec_bytes w) A r B off k e h ∙ ap (λ (l : List ℕ). A ++ (l ++ B)) (sym (put_as r k w))

-- what was put is read
vec3_back : (b : List ℕ) (k : ℕ) (w : Vec3) → k + 12 ≤ length b → Fit3 w → vec3_at (put_vec3 b k w) k ≡ w
unfolding vec3_at put_vec3
vec3_back b k w h f =
    let b1 = put_f32 b k w.x in
    let b2 = put_f32 b1 (k + 4) w.y in
    let l1 : length b1 ≡ length b = length-put_f32 b k w.x in
    let l2 : length b2 ≡ length b1 = length-put_f32 b1 (k + 4) w.y in
    let p0 = ap (of_bits binary32) (le32_beside (f32_bytes w.z) b2 (k + 8) k (inl (omega arith)) ∙ le32_beside (f32_bytes w.y) b1 (k + 4) k (inl (omega arith))) ∙ f32_back b k w.x (omega arith) f.x in
    let p1 = ap (of_bits binary32) (le32_beside (f32_bytes w.z) b2 (k + 8) (k + 4) (inl (omega arith))) ∙ f32_back b1 (k + 4) w.y (omega (arith, l1)) f.y in
    let p2 = f32_back b2 (k + 8) w.z (omega (arith, l1, l2)) f.z in
    λ j. record { x = p0 j; y = p1 j; z = p2 j }

-- ---- the rows are where they are

pub length_moved : (n : ℕ) (v : List Vec3) (s : List ℕ) → length (moved n v s) ≡ length s
unfolding moved
length_moved zero v s = refl
length_moved (suc n) v s = length-put_vec3 (moved n v s) (velocity_at n) (vec_of v n) ∙ length_moved n v s

moved_front : (n : ℕ) (v : List Vec3) (A B : List ℕ) → 26 + 30 * n ≤ length A → moved n v (A ++ B) ≡ moved n v A ++ B
unfolding moved
moved_front zero v A B h = refl
moved_front (suc n) v A B h =
    ap (λ (l : List ℕ). put_vec3 l (velocity_at n) (vec_of v n)) (moved_front n v A B (omega arith))
    ∙ put_left (moved n v A) B (velocity_at n) (vec_of v n) (omega (arith, length_moved n v A))

module _ (n : ℕ) (v : List Vec3) (s : List ℕ) (off : ℕ) (h : 26 + 30 * n ≤ off) (k : off ≤ length s) where
  cut : moved n v s ≡ moved n v (take off s) ++ drop off s
  cut = ap (moved n v) (sym (take-append-drop off s)) ∙ moved_front n v (take off s) (drop off s) (omega (arith, length-take-le off s k))

  front_long : length (moved n v (take off s)) ≡ off
  front_long = length_moved n v (take off s) ∙ length-take-le off s k

  pub moved_behind : drop off (moved n v s) ≡ drop off s
  moved_behind = ap (drop off) cut ∙ drop_at (moved n v (take off s)) (drop off s) off front_long

  moved_before : take off (moved n v s) ≡ moved n v (take off s)
  moved_before = ap (take off) cut ∙ take_at (moved n v (take off s)) (drop off s) off front_long

  pub moved_part : (m : ℕ) → part off m (moved n v s) ≡ part off m s
  moved_part m = ap (take m) moved_behind

  -- a part behind the points made anew
  pub moved_on_part : (m : ℕ) (f : List ℕ → List ℕ) → moved n v (on_part off m f s) ≡ on_part off m f (moved n v s)
  moved_on_part m f =
      moved_front n v (take off s) (f (part off m s) ++ drop (off + m) s) (omega (arith, length-take-le off s k))
      ∙ (λ j. sym moved_before j ++ (f (sym (moved_part m) j) ++ (sym (drop-drop m off s) ∙ ap (drop m) (sym moved_behind) ∙ drop-drop m off (moved n v s)) j))

-- ---- what the points hold

-- the velocity of a point further on is beside that of this one
further_on : (i n : ℕ) → i < n → velocity_at i + 12 ≤ velocity_at n
further_on i n h = omega arith

pub moved_velocity : (v : List Vec3) (s : List ℕ) (n : ℕ) → 26 + 30 * n ≤ length s → (i : ℕ) → i < n → Fit3 (vec_of v i) → vec3_at (moved n v s) (velocity_at i) ≡ vec_of v i
unfolding moved
moved_velocity v s zero h i l f = absurd (omega arith)
moved_velocity v s (suc n) h i l f =
    below_more (λ k. Fit3 (vec_of v k) → vec3_at (moved (suc n) v s) (velocity_at k) ≡ vec_of v k) n
    (λ k b q. vec3_beside (moved n v s) (velocity_at n) (vec_of v n) (velocity_at k) (inl (further_on k n b)) ∙ moved_velocity v s n (omega arith) k b q)
    (vec3_back (moved n v s) (velocity_at n) (vec_of v n) (omega (arith, length_moved n v s)))
    i (omega arith) f

-- a vector that lies beside all velocities
moved_beside : (v : List Vec3) (s : List ℕ) (n k : ℕ) → ((j : ℕ) → j < n → Beside k 12 (velocity_at j) 12) → vec3_at (moved n v s) k ≡ vec3_at s k
unfolding moved
moved_beside v s zero k h = refl
moved_beside v s (suc n) k h =
    vec3_beside (moved n v s) (velocity_at n) (vec_of v n) k (h n (omega arith)) ∙ moved_beside v s n k (λ j b. h j (omega arith))

-- ---- a velocity put

vec_same : (v : List Vec3) (i : ℕ) (w : Vec3) → i < length v → vec_of (set_vec v i w) i ≡ w
vec_same v i w h = get_or-set_same v i w no_vector h

vec_other : (v : List Vec3) (i j : ℕ) (w : Vec3) → (j < i) ⊎ (i < j) → vec_of (set_vec v i w) j ≡ vec_of v j
vec_other v i j w (inl h) = get_or-set_other v i j w no_vector (λ e. omega arith)
vec_other v i j w (inr h) = get_or-set_other v i j w no_vector (λ e. omega arith)

-- only the first n velocities count
moved_alike : (v u : List Vec3) (s : List ℕ) (n : ℕ) → ((j : ℕ) → j < n → vec_of v j ≡ vec_of u j) → moved n v s ≡ moved n u s
unfolding moved
moved_alike v u s zero h = refl
moved_alike v u s (suc n) h = λ m. put_vec3 (moved_alike v u s n (λ j b. h j (omega arith)) m) (velocity_at n) (h n (omega arith) m)

moved_put : (v : List Vec3) (s : List ℕ) (w : Vec3) (n : ℕ) → n ≤ length v → (i : ℕ) → i < n → put_vec3 (moved n v s) (velocity_at i) w ≡ moved n (set_vec v i w) s
unfolding moved
moved_put v s w zero h i l = absurd (omega arith)
moved_put v s w (suc n) h i l =
    below_more (λ k. put_vec3 (moved (suc n) v s) (velocity_at k) w ≡ moved (suc n) (set_vec v k w) s) n
    (λ k b. sym (put_comm (moved n v s) (velocity_at k) (velocity_at n) w (vec_of v n) (further_on k n b)) ∙ (λ m. put_vec3 (moved_put v s w n (omega arith) k b m) (velocity_at n) (sym (vec_other v k n w (inr b)) m)))
    (put_over (moved n v s) (velocity_at n) (vec_of v n) w
    ∙ (λ m. put_vec3 (moved_alike v (set_vec v n w) s n (λ j b. sym (vec_other v n j w (inl b))) m) (velocity_at n) (sym (vec_same v n w (omega arith)) m)))
    i (omega arith)

-- ---- nothing has moved yet

pub none_moved : (v : List Vec3) (s : List ℕ) (n : ℕ) → Bytes s → ((i : ℕ) → i < n → Finite3 s (velocity_at i)) → Apart n s v → moved n v s ≡ s
unfolding moved
none_moved v s zero y f a = refl
none_moved v s (suc n) y f a =
    (λ m. put_vec3 (none_moved v s n y (λ i b. f i (omega arith)) (λ i b. a i (omega arith)) m) (velocity_at n) (a n (omega arith) m))
    ∙ put_vec3_same s (velocity_at n) y (f n (omega arith))

-- ---- fetching and taking apart is fetching and taking in the frame

vec3_part : (s : List ℕ) (off k : ℕ) → k + 12 ≤ 30 → vec3_at (part off 30 s) k ≡ vec3_at s (off + k)
unfolding vec3_at
vec3_part s off k h =
    let e1 : off + (k + 4) ≡ off + k + 4 = omega arith in
    let e2 : off + (k + 8) ≡ off + k + 8 = omega arith in
    let p0 = ap (of_bits binary32) (le32_part s off 30 k (omega arith)) in
    let p1 = ap (of_bits binary32) (le32_part s off 30 (k + 4) (omega arith)) ∙ ap (f32_at s) e1 in
    let p2 = ap (of_bits binary32) (le32_part s off 30 (k + 8) (omega arith)) ∙ ap (f32_at s) e2 in
    λ j. record { x = p0 j; y = p1 j; z = p2 j }

module _ (n : ℕ) (v : List Vec3) (s : List ℕ) (h : 26 + 30 * n ≤ length s) where
  position_moved : (id : ℕ) → id < n → position (point_in (moved n v s) id) ≡ position (point_in s id)
  unfolding position
  position_moved id l =
      vec3_part (moved n v s) (place_of id) 6 (omega arith) ∙ moved_beside v s n (place_of id + 6) (λ j b. beside j) ∙ sym (vec3_part s (place_of id) 6 (omega arith))
    where
      go : (j : ℕ) (t : Bool) → ltb j id ≡ t → Beside (place_of id + 6) 12 (velocity_at j) 12
      go j true q = inr (omega (arith, ltb-true j id q))
      go j false q = inl (omega (arith, ltb-false j id q))

      beside : (j : ℕ) → Beside (place_of id + 6) 12 (velocity_at j) 12
      beside j = go j (ltb j id) refl

  position_held : (id : ℕ) → held_in position n (moved n v s) id ≡ held_in position n s id
  unfolding held_in
  position_held id = ap (named id) (go (ltb id n) refl)
    where
      go : (t : Bool) → ltb id n ≡ t → cond t (position (point_in (moved n v s) id)) zero_vector ≡ cond t (position (point_in s id)) zero_vector
      go true q = position_moved id (ltb-true id n q)
      go false q = refl

  pub positions_moved : (i : Ids) → holds_in position n (moved n v s) i ≡ holds_in position n s i
  unfolding holds_in
  positions_moved i = λ j. record { a = position_held i.a j; b = position_held i.b j; c = position_held i.c j; d = position_held i.d j }

  velocity_here : (id : ℕ) → id < n → Fit3 (vec_of v id) → velocity (point_in (moved n v s) id) ≡ vec_of v id
  unfolding velocity
  velocity_here id l f = vec3_part (moved n v s) (place_of id) 18 (omega arith) ∙ moved_velocity v s n h id l f

  held_apart : (id : ℕ) → FitAt n v id → held_of n v id ≡ held_in velocity n (moved n v s) id
  unfolding held_in held_of
  held_apart id f = ap (named id) (go (ltb id n) refl)
    where
      go : (t : Bool) → ltb id n ≡ t → cond t (vec_of v id) zero_vector ≡ cond t (velocity (point_in (moved n v s) id)) zero_vector
      go true q = let l = ltb-true id n q in sym (velocity_here id l (f l))
      go false q = refl

  pub holds_apart : (i : Ids) → FitOf n v i → holds_of n v i ≡ holds_in velocity n (moved n v s) i
  unfolding holds_in holds_of
  holds_apart i f = λ j. record { a = held_apart i.a f.a j; b = held_apart i.b f.b j; c = held_apart i.c f.c j; d = held_apart i.d f.d j }

  module _ (k : n ≤ length v) where
    lose_here : (id : ℕ) (x : Vec3) → id < n → Fit3 (vec_of v id) → on_part (place_of id) 30 (lose x) (moved n v s) ≡ moved n (set_vec v id (sub (vec_of v id) x)) s
    unfolding lose
    lose_here id x l f =
        let M = moved n v s in
        let off = place_of id in
        let w = sub (velocity (part off 30 M)) x in
        let a : length (take off M) ≡ off = length-take-le off M (omega (arith, length_moved n v s)) in
        let r : length (part off 30 M) ≡ 30 = length_part M off 30 (omega (arith, length_moved n v s)) in
        let whole : take off M ++ (part off 30 M ++ drop (off + 30) M) ≡ M =
        ap (λ (l : List ℕ). take off M ++ (part off 30 M ++ l)) (sym (drop-drop 30 off M)) ∙ ap (take off M ++◌) (take-append-drop 30 (drop off M)) ∙ take-append-drop off M in
        sym (put_middle (take off M) (part off 30 M) (drop (off + 30) M) off 18 w a (omega (arith, r)))
        ∙ ap (λ (l : List ℕ). put_vec3 l (off + 18) w) whole
        ∙ ap (λ (y : Vec3). put_vec3 M (off + 18) (sub y x)) (velocity_here id l f)
        ∙ moved_put v s (sub (vec_of v id) x) n k id l

    lost_at_lem : (id : ℕ) (x : Vec3) → FitAt n v id → moved n (lost_at n v id x) s ≡ taken_at n (moved n v s) id x
    unfolding taken_at lost_at
    lost_at_lem id x f = go (ltb id n) refl
      where
        go : (t : Bool) → ltb id n ≡ t → moved n (cond t (set_vec v id (sub (vec_of v id) x)) v) s ≡ cond t (on_part (place_of id) 30 (lose x) (moved n v s)) (moved n v s)
        go true q = let l = ltb-true id n q in sym (lose_here id x l (f l))
        go false q = refl

-- ---- what is taken from

sub_fits3 : (a b : Vec3) → Fit3 (sub a b)
unfolding sub
sub_fits3 a b = record { x = sub-fits binary32 a.x b.x; y = sub-fits binary32 a.y b.y; z = sub-fits binary32 a.z b.z }

module _ (n : ℕ) (v : List Vec3) (id : ℕ) (x : Vec3) where
  length_lost : length (lost_at n v id x) ≡ length v
  unfolding lost_at
  length_lost = go (ltb id n)
    where
      go : (t : Bool) → length (cond t (set_vec v id (sub (vec_of v id) x)) v) ≡ length v
      go true = length-set v id (sub (vec_of v id) x)
      go false = refl

  module _ (k : n ≤ length v) (j : ℕ) where
    -- a loss of another place's leaves it as it is
    apart_lost : (t : Bool) → ltb id n ≡ t → (u : Bool) → ltb j id ≡ u → (w : Bool) → ltb id j ≡ w → (vec_of (lost_at n v id x) j ≡ vec_of v j) ⊎ ((id ≡ j) × (id < n))
    unfolding lost_at
    apart_lost false e u p w q = inl (ap (λ (b : Bool). vec_of (cond b (set_vec v id (sub (vec_of v id) x)) v) j) e)
    apart_lost true e true p w q =
        inl (ap (λ (b : Bool). vec_of (cond b (set_vec v id (sub (vec_of v id) x)) v) j) e ∙ vec_other v id j (sub (vec_of v id) x) (inl (ltb-true j id p)))
    apart_lost true e false p true q =
        inl (ap (λ (b : Bool). vec_of (cond b (set_vec v id (sub (vec_of v id) x)) v) j) e ∙ vec_other v id j (sub (vec_of v id) x) (inr (ltb-true id j q)))
    apart_lost true e false p false q = inr (omega (arith, ltb-false j id p, ltb-false id j q), ltb-true id n e)

    fit_before : FitAt n v id → FitAt n (lost_at n v id x) j → FitAt n v j
    fit_before f g l = go (apart_lost (ltb id n) refl (ltb j id) refl (ltb id j) refl)
      where
        go : (vec_of (lost_at n v id x) j ≡ vec_of v j) ⊎ ((id ≡ j) × (id < n)) → Fit3 (vec_of v j)
        go (inl e) = subst Fit3 e (g l)
        go (inr e) = subst (λ (m : ℕ). Fit3 (vec_of v m)) e.0 (f e.1)

    fit_after : FitAt n v j → FitAt n (lost_at n v id x) j
    unfolding lost_at
    fit_after f l = go (ltb id n) refl
      where
        here : id < n → Fit3 (vec_of (set_vec v id (sub (vec_of v id) x)) id)
        here b = subst Fit3 (sym (vec_same v id (sub (vec_of v id) x) (omega arith))) (sub_fits3 (vec_of v id) x)

        set_fits : id < n → (u : Bool) → ltb j id ≡ u → (w : Bool) → ltb id j ≡ w → Fit3 (vec_of (set_vec v id (sub (vec_of v id) x)) j)
        set_fits b true p w q = subst Fit3 (sym (vec_other v id j (sub (vec_of v id) x) (inl (ltb-true j id p)))) (f l)
        set_fits b false p true q = subst Fit3 (sym (vec_other v id j (sub (vec_of v id) x) (inr (ltb-true id j q)))) (f l)
        set_fits b false p false q =
            let e : id ≡ j = omega (arith, ltb-false j id p, ltb-false id j q) in
            subst (λ (m : ℕ). Fit3 (vec_of (set_vec v id (sub (vec_of v id) x)) m)) e (here b)

        go : (t : Bool) → ltb id n ≡ t → Fit3 (vec_of (cond t (set_vec v id (sub (vec_of v id) x)) v) j)
        go true e = set_fits (ltb-true id n e) (ltb j id) refl (ltb id j) refl
        go false e = f l

-- what a place lost before another was taken from says nothing against the other
module _ (v v' : List Vec3) (id : ℕ) (x : Vec3) (e : v' ≡ lost_at (length v) v id x) (f : FitAt (length v) v id) where
  fit_first : (j : ℕ) → FitAt (length v') v' j → FitAt (length v) v j
  fit_first j g =
      fit_before (length v) v id x (omega arith) j f
      (λ l. subst Fit3 (ap (λ (u : List Vec3). vec_of u j) e) (g (omega (arith, l, ap length e, length_lost (length v) v id x))))

pub fits_taken : (v v1 v2 v3 : List Vec3) (i : Ids) (x : Four Vec3)
    → v1 ≡ lost_at (length v) v i.a x.a → v2 ≡ lost_at (length v1) v1 i.b x.b → v3 ≡ lost_at (length v2) v2 i.c x.c
    → FitAt (length v) v i.a → FitAt (length v1) v1 i.b → FitAt (length v2) v2 i.c → FitAt (length v3) v3 i.d → FitOf (length v) v i
fits_taken v v1 v2 v3 i x e1 e2 e3 fa fb fc fd = record {
  a = fa;
  b = fit_first v v1 i.a x.a e1 fa i.b fb;
  c = fit_first v v1 i.a x.a e1 fa i.c (fit_first v1 v2 i.b x.b e2 fb i.c fc);
  d = fit_first v v1 i.a x.a e1 fa i.d (fit_first v1 v2 i.b x.b e2 fb i.d (fit_first v2 v3 i.c x.c e3 fc i.d fd));
}

module _ (n : ℕ) (v : List Vec3) (i : Ids) (x : Four Vec3) (k : n ≤ length v) where
  abbrev v1 : List Vec3
  v1 = lost_at n v i.a x.a

  abbrev v2 : List Vec3
  v2 = lost_at n v1 i.b x.b

  abbrev v3 : List Vec3
  v3 = lost_at n v2 i.c x.c

  k1 : n ≤ length v1
  k1 = omega (arith, length_lost n v i.a x.a)

  k2 : n ≤ length v2
  k2 = omega (arith, length_lost n v1 i.b x.b, k1)

  k3 : n ≤ length v3
  k3 = omega (arith, length_lost n v2 i.c x.c, k2)

  pub lost_apart : FitOf n v i → (s : List ℕ) → 26 + 30 * n ≤ length s → moved n (lost n v i x) s ≡ taken n (moved n v s) i x
  unfolding lost taken
  lost_apart f s h =
      let b1 = fit_after n v i.a x.a k i.b f.b in
      let c1 = fit_after n v i.a x.a k i.c f.c in
      let d1 = fit_after n v i.a x.a k i.d f.d in
      let c2 = fit_after n v1 i.b x.b k1 i.c c1 in
      let d2 = fit_after n v1 i.b x.b k1 i.d d1 in
      lost_at_lem n v3 s h k3 i.d x.d (fit_after n v2 i.c x.c k2 i.d d2)
      ∙ ap (λ (t : List ℕ). taken_at n t i.d x.d)
      (lost_at_lem n v2 s h k2 i.c x.c c2
      ∙ ap (λ (t : List ℕ). taken_at n t i.c x.c)
      (lost_at_lem n v1 s h k1 i.b x.b b1
      ∙ ap (λ (t : List ℕ). taken_at n t i.b x.b) (lost_at_lem n v s h k i.a x.a f.a)))

-- ---- one velocity after another set apart

pub apart_more : (s : List ℕ) (v : List Vec3) (i : ℕ) (w : Vec3) → i < length v → Apart i s v → w ≡ vec3_at s (velocity_at i) → Apart (i + 1) s (set_vec v i w)
apart_more s v i w h a e =
    below_more (λ k. vec_of (set_vec v i w) k ≡ vec3_at s (velocity_at k)) i
    (λ k b. vec_other v i k w (inl b) ∙ a k b)
    (vec_same v i w h ∙ e)

-- ---- and put back
module _ (v : List Vec3) (s₀ : List ℕ) (i : ℕ) (s : List ℕ) (e : s ≡ moved i v s₀) where
  pub scattered_more : (s' : List ℕ) (w : Vec3) → w ≡ vec_of v i → s' ≡ put_vec3 s (velocity_at i) w → s' ≡ moved (i + 1) v s₀
  unfolding moved
  scattered_more s' w f g = g ∙ (λ m. put_vec3 (e m) (velocity_at i) (f m)) ∙ ap (λ (k : ℕ). moved k v s₀) (sym (add-one i))

pub scattered_none : (v : List Vec3) (s : List ℕ) → s ≡ moved 0 v s
unfolding moved
scattered_none v s = refl
