-- What the code of one row's step leaves is the step of the rules. Assumes nothing.
use Rattle.std.proofs.Common.{ℕ, ◌≡◌, refl, sym, ap, ◌∙◌, subst, Bool, true, false, not, List, ◌++◌, Float, Option, Some, None}
use Rattle.std.proofs.lemmas.Bool.{false≢true}
use Rattle.little_endian.specs.Bytes.{part}
use Rattle.records.specs.Records.{record_at, flatten}
use Rattle.relisting.specs.Steps.{fetch, alters, ◌then◌, pick, nothing}
use Rattle.vector.specs.declared.Vec3.{Vec3}
use Rattle.vector.specs.declared.Four.{Four}
use Rattle.places.specs.Places.{Holds, Ids}
use Rattle.rows.specs.Row.{places, holds_of, losses_of, four}
use Rattle.stored.specs.Read.{row_of}
use Rattle.stored.specs.Phases.{names_at, is_strained_at, update_row, warm_row, warm_loss, solve_row, solve_loss}
use Rattle.stored.specs.Points.{Points, position, velocity, lose, update, warm, solve}
use Rattle.stored.specs.Sizes.{update_steady, warm_steady, solve_steady, lose_alike}
use Rattle.stored.specs.PhaseLaws.{names_on, names_are, update_names, warm_names, strained_is, positions_on, velocities_on, update_is}
use Rattle.stored.specs.PhaseLaws.{update_leaves, warm_is, warm_loses, solve_is, solve_loses}
use Rattle.floats.specs.Written.{AllWritten}
use Rattle.points.specs.InFrame.{on_part, holds_in, taken}
use Rattle.points.proofs.Bridge.{holds_bridge, taken_bridge}
use Rattle.sweep.specs.Laid.{At, Standing, Stepped, if_some, begin_of, is_passed, step_of}
use Rattle.sweep.specs.declared.Turn.{Turn}
use Rattle.sweep.specs.declared.Turn.TheVariants.{Main, Resweep}
use Rattle.sweep.proofs.Rooms.{record_here, row_here, anew, still}

module _ {n off len : ℕ} {H : List ℕ} {ps : Points} {D b X s : List ℕ} (w : At n off len H ps D b X s) where
  -- what the places that the row names hold
  held_here : (what : List ℕ → Vec3) (i : Ids) → i ≡ names_at b → holds_in what n s i ≡ holds_of what (names_on b) (fetch (names_on b) ps)
  held_here what i e =
      (λ j. holds_in what n (w.bytes j) i)
      ∙ holds_bridge H w.head n what ps (D ++ (b ++ X)) i w.many w.sized
      ∙ ap (λ (l : List ℕ). holds_of what l (fetch l ps)) (ap places e ∙ sym (names_are b))

  -- and what they lose, once the row is b'
  lost_here : (i : Ids) (x : Four Vec3) (b' : List ℕ) → i ≡ names_at b
      → taken n (H ++ (flatten ps ++ (D ++ (b' ++ X)))) i x ≡ H ++ (flatten (alters lose (losses_of n (names_on b) (four x)) ps) ++ (D ++ (b' ++ X)))
  lost_here i x b' e =
      taken_bridge H w.head n (λ y p. (lose_alike y p).size) ps (D ++ (b' ++ X)) i x w.many w.sized
      ∙ ap (λ (l : List ℕ). H ++ (flatten (alters lose (losses_of n l (four x)) ps) ++ (D ++ (b' ++ X)))) (ap places e ∙ sym (names_are b))

pub updated : (n off len : ℕ) (s : List ℕ) (least : Float) (r : List ℕ) (i : Ids) (held : Holds) (s' : List ℕ)
    → r ≡ record_at s off → i ≡ names_at r → held ≡ holds_in position n s i → s' ≡ on_part off len (update_row least held) s
    → AllWritten (update_row least held r) → Stepped (update n least) n off len s s'
updated n off len s least r i held s' e f g h y H ps D b X w =
    let k : i ≡ names_at b = f ∙ ap names_at (e ∙ record_here w) in
    let q : held ≡ positions_on b ps = g ∙ held_here w position i k in
    still w (update n least b ps).1 (update n least b ps).0 s' ((update_steady n least).row b ps)
    (subst AllWritten ((λ j. update_row least (q j) ((e ∙ record_here w) j)) ∙ sym (update_is n b ps least)) y) ((update_steady n least).points b ps)
    (h ∙ anew w (update_row least held)
    ∙ (λ j. H ++ (flatten (sym (update_leaves n b ps least) j) ++ (D ++ ((ap (λ (y : Holds). update_row least y b) q ∙ sym (update_is n b ps least)) j ++ X)))))

pub warmed : (n off len : ℕ) (s : List ℕ) (coeff : Float) (r : List ℕ) (i : Ids) (x : Four Vec3) (s₁ s' : List ℕ)
    → r ≡ record_at s off → i ≡ names_at r → s₁ ≡ on_part off len (warm_row coeff) s → x ≡ warm_loss coeff (part off len s) → s' ≡ taken n s₁ i x
    → AllWritten (warm_row coeff r) → Stepped (warm n coeff) n off len s s'
warmed n off len s coeff r i x s₁ s' e f g h t u H ps D b X w =
    let k : i ≡ names_at b = f ∙ ap names_at (e ∙ record_here w) in
    let y : x ≡ warm_loss coeff b = h ∙ ap (warm_loss coeff) (row_here w) in
    still w (warm n coeff b ps).1 (warm n coeff b ps).0 s' ((warm_steady n coeff).row b ps)
    (subst AllWritten (ap (warm_row coeff) (e ∙ record_here w) ∙ sym (warm_is n b ps coeff)) u) ((warm_steady n coeff).points b ps)
    (t ∙ ap (λ (l : List ℕ). taken n l i x) (g ∙ anew w (warm_row coeff))
    ∙ lost_here w i x (warm_row coeff b) k
    ∙ (λ j. H ++ (flatten ((ap (λ (z : Four Vec3). alters lose (losses_of n (names_on b) (four z)) ps) y ∙ sym (warm_loses n b ps coeff)) j) ++ (D ++ (sym (warm_is n b ps coeff) j ++ X)))))

pub solved : (n off len : ℕ) (s : List ℕ) (r : List ℕ) (i : Ids) (vel : Holds) (x : Four Vec3) (s₁ s' : List ℕ)
    → r ≡ record_at s off → i ≡ names_at r → vel ≡ holds_in velocity n s i → s₁ ≡ on_part off len (solve_row vel) s → x ≡ solve_loss vel (part off len s) → s' ≡ taken n s₁ i x
    → AllWritten (solve_row vel r) → Stepped (solve n) n off len s s'
solved n off len s r i vel x s₁ s' e f v g h t u H ps D b X w =
    let k : i ≡ names_at b = f ∙ ap names_at (e ∙ record_here w) in
    let q : vel ≡ velocities_on b ps = v ∙ held_here w velocity i k in
    let y : x ≡ solve_loss (velocities_on b ps) b = h ∙ (λ j. solve_loss (q j) (row_here w j)) in
    still w (solve n b ps).1 (solve n b ps).0 s' ((solve_steady n).row b ps)
    (subst AllWritten ((λ j. solve_row (q j) ((e ∙ record_here w) j)) ∙ sym (solve_is n b ps)) u) ((solve_steady n).points b ps)
    (t ∙ ap (λ (l : List ℕ). taken n l i x) (g ∙ anew w (solve_row vel))
    ∙ lost_here w i x (solve_row vel b) k
    ∙ (λ j. H ++ (flatten ((ap (λ (z : Four Vec3). alters lose (losses_of n (names_on b) (four z)) ps) y ∙ sym (solve_loses n b ps)) j)
    ++ (D ++ ((ap (λ (z : Holds). solve_row z b) q ∙ sym (solve_is n b ps)) j ++ X)))))

-- ---- steps from steps

module _ (n off len : ℕ) where
  -- a row stands there still
  pub stands : (f : List ℕ → Points → List ℕ × Points) (s s' : List ℕ) → Standing n off len s → Stepped f n off len s s' → Standing n off len s'
  stands f s s' y z = record {
    few = y.few;
    H = y.H;
    ps = (f y.b y.ps).1;
    D = y.D;
    b = (f y.b y.ps).0;
    X = y.X;
    at = z y.H y.ps y.D y.b y.X y.at;
  }

  pub after : (f g : List ℕ → Points → List ℕ × Points) (s s₁ s' : List ℕ) → Stepped f n off len s s₁ → Stepped g n off len s₁ s' → Stepped (f then g) n off len s s'
  after f g s s₁ s' y z H ps D b X w = z H (f b ps).1 D (f b ps).0 X (y H ps D b X w)

  -- a resweep passes over a row that is not strained, and solves one that is
  strained_here : (s : List ℕ) (x : Bool) → not (is_strained_at (record_at s off)) ≡ x → (b : List ℕ) → record_at s off ≡ b → not (row_of b).strained ≡ x
  strained_here s x h b e = ap not (strained_is b ∙ ap is_strained_at (sym e)) ∙ h

  pub passed : (s : List ℕ) (t : Turn) → is_passed t (record_at s off) ≡ true → Stepped (step_of n t) n off len s s
  passed s (Main p) h = absurd (false≢true h)
  passed s Resweep h = λ H ps D b X w. go H ps D b X w (row_of b).strained (strained_here s true h b (record_here w))
    where
      go : (H : List ℕ) (ps : Points) (D b X : List ℕ) → At n off len H ps D b X s → (x : Bool) → not x ≡ true → At n off len H (pick x (solve n) nothing b ps).1 D (pick x (solve n) nothing b ps).0 X s
      go H ps D b X w true e = absurd (false≢true e)
      go H ps D b X w false e = w

  pub gone : (s s' : List ℕ) (t : Turn) → is_passed t (record_at s off) ≡ false → Stepped (begin_of n t then solve n) n off len s s' → Stepped (step_of n t) n off len s s'
  gone s s' (Main p) h z = z
  gone s s' Resweep h z = λ H ps D b X w. go H ps D b X w (row_of b).strained (strained_here s false h b (record_here w))
    where
      go : (H : List ℕ) (ps : Points) (D b X : List ℕ) → At n off len H ps D b X s → (x : Bool) → not x ≡ false → At n off len H (pick x (solve n) nothing b ps).1 D (pick x (solve n) nothing b ps).0 X s'
      go H ps D b X w true e = z H ps D b X w
      go H ps D b X w false e = absurd (false≢true (sym e))

  -- a phase that is on
  pub if_on : (f : Float → List ℕ → Points → List ℕ × Points) {o : Option Float} {x : Float} {s s' : List ℕ} → o ≡ Some x → Stepped (f x) n off len s s' → Stepped (if_some f o) n off len s s'
  if_on f {s = s} {s' = s'} e = subst (λ (o : Option Float). Stepped (if_some f o) n off len s s') (sym e)

-- ---- an update and a warm start leave the names

abbrev pub NamesStay : (List ℕ → Points → List ℕ × Points) → Type 0
NamesStay f = (b : List ℕ) (ps : Points) → names_at (f b ps).0 ≡ names_at b

pub if_names : (f : Float → List ℕ → Points → List ℕ × Points) → ((x : Float) → NamesStay (f x)) → (o : Option Float) → NamesStay (if_some f o)
if_names f h (Some x) = h x
if_names f h None = λ b ps. refl

pub update_stay : (n : ℕ) (o : Option Float) → NamesStay (if_some (update n) o)
update_stay n = if_names (update n) (λ least b ps. ap names_at (update_is n b ps least) ∙ update_names least (positions_on b ps) b)

pub warm_stay : (n : ℕ) (o : Option Float) → NamesStay (if_some (warm n) o)
warm_stay n = if_names (warm n) (λ coeff b ps. ap names_at (warm_is n b ps coeff) ∙ warm_names coeff b)

pub begin_stay : (n : ℕ) (t : Turn) → NamesStay (begin_of n t)
begin_stay n (Main p) b ps = let x = if_some (update n) p.update b ps in warm_stay n p.warm x.0 x.1 ∙ update_stay n p.update b ps
begin_stay n Resweep b ps = refl
