-- Two sweeps of one local step over two listings. Each point of a set Q comes out alike, and so does each matched row, where the
-- matched rows are equal, keep the order of every writer and reader of a point, and are all that write in Q.
-- The proof: what a point holds is what its last writer put there, and both sweeps have the same last writer.
-- Assumes nothing.
use Rattle.std.specs.Prelude.{◌≡◌, refl, ℕ, zero, suc, ◌≤◌, ◌<◌, List, [], ◌∷◌, length, get_or, replicate}
use Rattle.std.proofs.Common.{sym, ap, ◌∙◌, subst, not-suc-le-zero, le_refl, le_of_suc-le-suc, arith}
use Rattle.std.proofs.Math.Path.{transport}
use Rattle.std.proofs.Math.Decide.{dec_lt}
use Rattle.relisting.specs.Access.{Access, Agree, Local}
use Rattle.relisting.specs.Steps.{sweep, sweeps}

module _ {R S : Type 0} (f : R → S → R × S) where
  -- the state that row n meets
  abbrev pub before : (ℕ → R) → S → ℕ → S
  before row s zero = s
  before row s (suc n) = (f (row n) (before row s n)).1

-- one more number below the bound
below_suc : (X : ℕ → Type 0) (n : ℕ) → ((k : ℕ) → k < n → X k) → X n → (k : ℕ) → k < suc n → X k
below_suc X n h x k lt = elim (dec_lt k n) [ yes l ↦ h k l | no g ↦ subst X (let e : n ≡ k = omega arith in e) x ]

-- which row of the first n last wrote point p, and what p holds
data Came {R S P K : Type 0} (F : Access R S P K) (f : R → S → R × S) (row : ℕ → R) (s : S) (p n : ℕ) : Type 0 where
  never : ((k : ℕ) → k < n → ¬ (F.writes (F.key (row k)) p)) → F.get (before f row s n) p ≡ F.get s p → Came F f row s p n
  by : (k : ℕ) → k < n → F.writes (F.key (row k)) p → ((j : ℕ) → j < n → k < j → ¬ (F.writes (F.key (row j)) p))
      → F.get (before f row s n) p ≡ F.get (f (row k) (before f row s k)).1 p → Came F f row s p n

-- how the rows of two listings, known by their keys, answer to one another: M matches numbers, a and b are the lengths
pub record Match {R S P K : Type 0} (F : Access R S P K) (M : ℕ → ℕ → Type 0) (Q : ℕ → Type 0) (kA kB : ℕ → K) (a b : ℕ) : Type 0 where
  pub in_a : (n m : ℕ) → M n m → n < a
  pub in_b : (n m : ℕ) → M n m → m < b
  pub in_q : (n m p : ℕ) → M n m → F.reads (kA n) p → Q p
  pub from_a : (n p : ℕ) → n < a → Q p → F.writes (kA n) p → (m : ℕ) × M n m
  pub from_b : (m p : ℕ) → m < b → Q p → F.writes (kB m) p → (n : ℕ) × M n m
  pub forth : (n m n' m' p : ℕ) → M n m → M n' m' → F.writes (kA n) p → F.reads (kA n') p → n < n' → m < m'
  pub back : (n m n' m' p : ℕ) → M n m → M n' m' → F.writes (kB m) p → F.reads (kB m') p → m < m' → n < n'

module _ {R S P K : Type 0} (F : Access R S P K) (f : R → S → R × S) (L : Local F f) where
  came : (row : ℕ → R) (s : S) (p n : ℕ) → Came F f row s p n
  came row s p zero = never (λ k h. absurd (not-suc-le-zero h)) refl
  came row s p (suc n) = go (came row s p n) (F.writes? (F.key (row n)) p)
    where
      go : Came F f row s p n → Dec (F.writes (F.key (row n)) p) → Came F f row s p (suc n)
      go c (yes w) = by n (le_refl (suc n)) w (λ j h l. absurd (omega arith)) refl
      go (never g e) (no g') = never (below_suc (λ k. ¬ (F.writes (F.key (row k)) p)) n g g') (L.keep (row n) (before f row s n) p g' ∙ e)
      go (by k h w g e) (no g') =
          by k (omega arith) w (below_suc (λ j. k < j → ¬ (F.writes (F.key (row j)) p)) n g (λ l. g')) (L.keep (row n) (before f row s n) p g' ∙ e)

  module _ (M : ℕ → ℕ → Type 0) (Q : ℕ → Type 0) (A B : ℕ → R) (a b : ℕ) (s t : S)
      (X : Match F M Q (λ n. F.key (A n)) (λ n. F.key (B n)) a b)
      (rows : (n m : ℕ) → M n m → A n ≡ B m) (points : (p : ℕ) → Q p → F.get s p ≡ F.get t p) where
    meet : (n m p : ℕ) → n ≤ a → m ≤ b → Q p
        → ((k k' : ℕ) → M k k' → F.writes (F.key (A k)) p → k < n → k' < m)
        → ((k k' : ℕ) → M k k' → F.writes (F.key (B k')) p → k' < m → k < n)
        → ((k k' : ℕ) → k < n → M k k' → Agree F (F.key (A k)) (before f A s k) (before f B t k'))
        → F.get (before f A s n) p ≡ F.get (before f B t m) p
    meet n m p na mb q up down ih = go (came A s p n) (came B t p m)
      where
        to : (k k' : ℕ) → M k k' → F.writes (F.key (A k)) p → F.writes (F.key (B k')) p
        to k k' mk w = subst (λ (r : R). F.writes (F.key r) p) (rows k k' mk) w

        fro : (k k' : ℕ) → M k k' → F.writes (F.key (B k')) p → F.writes (F.key (A k)) p
        fro k k' mk w = subst (λ (r : R). F.writes (F.key r) p) (sym (rows k k' mk)) w

        put : (k k' : ℕ) → k < n → M k k' → F.writes (F.key (A k)) p
            → F.get (f (A k) (before f A s k)).1 p ≡ F.get (f (B k') (before f B t k')).1 p
        put k k' lt mk w =
            L.put (A k) (before f A s k) (before f B t k') (ih k k' lt mk) p w
            ∙ ap (λ (r : R). F.get (f r (before f B t k')).1 p) (rows k k' mk)

        go : Came F f A s p n → Came F f B t p m → F.get (before f A s n) p ≡ F.get (before f B t m) p
        go (never g e) (never g' e') = e ∙ points p q ∙ sym e'
        go (never g e) (by k' h' w' g' e') =
            let (k, mk) = X.from_b k' p (omega arith) q w' in
            absurd (g k (down k k' mk w' h') (fro k k' mk w'))
        go (by k h w g e) (never g' e') =
            let (k', mk) = X.from_a k p (omega arith) q w in
            absurd (g' k' (up k k' mk w h) (to k k' mk w))
        go (by k h w g e) (by k' h' w' g' e') =
            let (j', mj) = X.from_a k p (omega arith) q w in
            let (j, mj') = X.from_b k' p (omega arith) q w' in
            let v : F.writes (F.key (B j')) p = to k j' mj w in
            let one : ¬ (j' < k') =
            λ l. g j (down j k' mj' w' h') (X.back k j' j k' p mj mj' v (F.written_read (B k') p w') l) (fro j k' mj' w') in
            let other : ¬ (k' < j') = λ l. g' j' (up k j' mj w h) l v in
            let same : j' ≡ k' = omega arith in
            e ∙ put k k' h (subst (M k) same mj) w ∙ sym e'

    -- a matched row meets what its partner meets, at each point that it reads
    agree : (n m : ℕ) → M n m → Agree F (F.key (A n)) (before f A s n) (before f B t m)
    agree n m mm = go (suc n) n m (le_refl (suc n)) mm
      where
        go : (c n m : ℕ) → n < c → M n m → Agree F (F.key (A n)) (before f A s n) (before f B t m)
        go zero n m h mm p rd = absurd (not-suc-le-zero h)
        go (suc c) n m h mm p rd =
            let ina : n < a = X.in_a n m mm in
            let inb : m < b = X.in_b n m mm in
            meet n m p (omega arith) (omega arith) (X.in_q n m p mm rd)
            (λ k k' mk w l. X.forth k k' n m p mk mm w rd l)
            (λ k k' mk w l. X.back k k' n m p mk mm w (subst (λ (r : R). F.reads (F.key r) p) (rows n m mm) rd) l)
            (λ k k' l mk. go c k k' (omega arith) mk)

    pub row_alike : (n m : ℕ) → M n m → (f (A n) (before f A s n)).0 ≡ (f (B m) (before f B t m)).0
    row_alike n m mm =
        L.row (A n) (before f A s n) (before f B t m) (agree n m mm)
        ∙ ap (λ (r : R). (f r (before f B t m)).0) (rows n m mm)

    pub point_alike : (p : ℕ) → Q p → F.get (before f A s a) p ≡ F.get (before f B t b) p
    point_alike p q =
        meet a b p (le_refl a) (le_refl b) q (λ k k' mk w l. X.in_b k k' mk) (λ k k' mk w l. X.in_a k k' mk) (λ k k' l mk. agree k k' mk)

-- ---- the sweep of a list, by numbers: row n is `get_or rows n d`

module _ {R S : Type 0} (f : R → S → R × S) (d : R) where
  abbrev pub nth : List R → ℕ → R
  nth rows n = get_or rows n d

  before_cons : (r : R) (rs : List R) (s : S) (n : ℕ) → before f (nth (r ∷ rs)) s (suc n) ≡ before f (nth rs) (f r s).1 n
  before_cons r rs s zero = refl
  before_cons r rs s (suc n) = ap (λ (x : S). (f (nth rs n) x).1) (before_cons r rs s n)

  pub sweep_length : (rows : List R) (s : S) → length (sweep f rows s).0 ≡ length rows
  sweep_length [] s = refl
  sweep_length (r ∷ rs) s = ap suc (sweep_length rs (f r s).1)

  pub sweep_row : (rows : List R) (s : S) (n : ℕ) → n < length rows → nth (sweep f rows s).0 n ≡ (f (nth rows n) (before f (nth rows) s n)).0
  sweep_row [] s n h = absurd (not-suc-le-zero h)
  sweep_row (r ∷ rs) s zero h = refl
  sweep_row (r ∷ rs) s (suc n) h =
      sweep_row rs (f r s).1 n (le_of_suc-le-suc h) ∙ ap (λ (x : S). (f (nth rs n) x).0) (sym (before_cons r rs s n))

  pub sweep_state : (rows : List R) (s : S) → (sweep f rows s).1 ≡ before f (nth rows) s (length rows)
  sweep_state [] s = refl
  sweep_state (r ∷ rs) s = sweep_state rs (f r s).1 ∙ sym (before_cons r rs s (length rs))

  pub sweep_key : {K : Type 0} (key : R → K) → ((r : R) (s : S) → key (f r s).0 ≡ key r)
      → (rows : List R) (s : S) (n : ℕ) → key (nth (sweep f rows s).0 n) ≡ key (nth rows n)
  sweep_key key same [] s n = refl
  sweep_key key same (r ∷ rs) s zero = same r s
  sweep_key key same (r ∷ rs) s (suc n) = sweep_key key same rs (f r s).1 n

-- ---- two listings that answer to one another, and do so again after a sweep, and after any number of them

module _ {R S P K : Type 0} (F : Access R S P K) (d : R) (M : ℕ → ℕ → Type 0) (Q : ℕ → Type 0) where
  pub record Alike (x y : List R × S) : Type 0 where
    pub match : Match F M Q (λ n. F.key (get_or x.0 n d)) (λ n. F.key (get_or y.0 n d)) (length x.0) (length y.0)
    pub rows : (n m : ℕ) → M n m → get_or x.0 n d ≡ get_or y.0 m d
    pub points : (p : ℕ) → Q p → F.get x.1 p ≡ F.get y.1 p

  pub sweep_alike : (f : R → S → R × S) → Local F f → (A B : List R) (s t : S) → Alike (A, s) (B, t) → Alike (sweep f A s) (sweep f B t)
  sweep_alike f L A B s t h = record {
    match = transport
        (sym {A = Type 0} (λ i. Match F M Q (λ n. sweep_key f d F.key L.same A s n i) (λ n. sweep_key f d F.key L.same B t n i) (sweep_length f d A s i) (sweep_length f d B t i)))
        h.match;
    rows = λ n m mm.
        sweep_row f d A s n (h.match.in_a n m mm)
        ∙ row_alike F f L M Q (λ k. get_or A k d) (λ k. get_or B k d) (length A) (length B) s t h.match h.rows h.points n m mm
        ∙ sym (sweep_row f d B t m (h.match.in_b n m mm));
    points = λ p q.
        ap (λ (x : S). F.get x p) (sweep_state f d A s)
        ∙ point_alike F f L M Q (λ k. get_or A k d) (λ k. get_or B k d) (length A) (length B) s t h.match h.rows h.points p q
        ∙ ap (λ (x : S). F.get x p) (sym (sweep_state f d B t));
  }

pub data All-local {R S P K : Type 0} (F : Access R S P K) : List (R → S → R × S) → Type 0 where
  done : All-local F []
  also : {f : R → S → R × S} {fs : List (R → S → R × S)} → Local F f → All-local F fs → All-local F (f ∷ fs)

pub sweeps_alike : {R S P K : Type 0} (F : Access R S P K) (d : R) (M : ℕ → ℕ → Type 0) (Q : ℕ → Type 0) {fs : List (R → S → R × S)} → All-local F fs
    → (x y : List R × S) → Alike F d M Q x y → Alike F d M Q (sweeps fs x) (sweeps fs y)
sweeps_alike F d M Q done x y h = h
sweeps_alike F d M Q (also {f = f} {fs = fs} L Ls) x y h =
    sweeps_alike F d M Q Ls (sweep f x.0 x.1) (sweep f y.0 y.1) (sweep_alike F d M Q f L x.0 y.0 x.1 y.1 h)

pub run_local : {R S P K : Type 0} (F : Access R S P K) (f g : R → S → R × S) → Local F f → Local F g → (k : ℕ) → All-local F (f ∷ replicate k g)
run_local F f g L M k = also L (go k)
  where
    go : (k : ℕ) → All-local F (replicate k g)
    go zero = done
    go (suc k) = also M (go k)

pub sweeps_length : {R S : Type 0} (d : R) (fs : List (R → S → R × S)) (x : List R × S) → length (sweeps fs x).0 ≡ length x.0
sweeps_length d [] x = refl
sweeps_length d (f ∷ fs) x = sweeps_length d fs (sweep f x.0 x.1) ∙ sweep_length f d x.0 x.1
