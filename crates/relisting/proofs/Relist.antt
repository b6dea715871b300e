-- Demand 3, over any local steps: an accepted listing A and a relisting B of it (specs/Relist), run alike, end with the same points and with the
-- same rows in each pair, however many sweeps are made.
-- Assumes nothing.
use Rattle.std.specs.Prelude.{◌≡◌, refl, ◌≢◌, ℕ, ◌<◌, List, ◌∷◌, map, length, get_or, replicate}
use Rattle.std.proofs.Common.{sym, ap, ◌∙◌, subst, subst₂, inl, inr, arith}
use Rattle.std.proofs.Math.Decide.{dec_lt, ℕ_discrete}
use Rattle.std.proofs.lemmas.List.{length-map}
use Rattle.std.proofs.Math.ListN.{get_or-map}
use Rattle.relisting.specs.Access.{Access, Local}
use Rattle.relisting.specs.Steps.{sweeps, run}
use Rattle.relisting.specs.Sweep.{Match, Alike, All-local, sweeps_alike, run_local}
use Rattle.relisting.specs.Relist as relist
use Rattle.relisting.specs.Relist.{Clash, Pairing}

module _ {R S P K : Type 0} (F : Access R S P K) (d : R) (colour : K → ℕ) (overflow : ℕ) where
  -- the definitions of specs/Relist, of these rows
  abbrev at : List R → ℕ → K
  at rows n = relist.at F d colour overflow rows n

  abbrev hue : List R → ℕ → ℕ
  hue rows n = relist.hue F d colour overflow rows n

  abbrev Accepted : List R → Type 0
  Accepted A = relist.Accepted F d colour overflow A

  abbrev Relisted : (ℕ → ℕ) → (ℕ → ℕ) → List R → List R → Type 0
  Relisted σ τ A B = relist.Relisted F d colour overflow σ τ A B

  relisted_back : (σ τ : ℕ → ℕ) (A B : List R) → Relisted σ τ A B → Relisted τ σ B A
  relisted_back σ τ A B h = record {
    lengths = sym h.lengths;
    colours = λ n l. sym (h.colours n (in_a n l));
    pairing = subst (Pairing τ σ) (sym h.lengths) (record { there = h.pairing.home; home = h.pairing.there; τσ = h.pairing.στ; στ = h.pairing.τσ });
    bytes = λ n l. sym (h.bytes (τ n) (h.pairing.home n (in_a n l))) ∙ ap (λ (k : ℕ). get_or B k d) (h.pairing.στ n (in_a n l));
    own = λ n l e. ap τ (sym (h.own n (in_a n l) (sym (h.colours n (in_a n l)) ∙ e))) ∙ h.pairing.τσ n (in_a n l);
  }
    where
      in_a : (n : ℕ) → n < length B → n < length A
      in_a n l = subst (λ (c : ℕ). n < c) h.lengths l

  clash_sym : (k l : K) → Clash F k l → Clash F l k
  clash_sym k l (p, inl (w, r)) = (p, inr (r, w))
  clash_sym k l (p, inr (r, w)) = (p, inl (w, r))

  apart_any : (A : List R) → Accepted A → (i j : ℕ) → i ≢ j → i < length A → j < length A → hue A i ≡ hue A j → hue A i ≢ overflow → ¬ Clash F (at A i) (at A j)
  apart_any A acc i j ne li lj e o c = elim (dec_lt i j) [
    | yes l ↦ acc.apart i j l lj e o c
    | no g ↦ acc.apart j i (omega arith) li (sym e) (λ e'. o (e ∙ e')) (clash_sym (at A i) (at A j) c)
  ]

  -- check takes B as it takes A
  pub accepted_relisted : (σ τ : ℕ → ℕ) (A B : List R) → Accepted A → Relisted σ τ A B → Accepted B
  accepted_relisted σ τ A B acc h = record {
    rising = λ m n l lb. let len = h.lengths in
        omega (arith, acc.rising m n l (omega arith), h.colours m (omega arith), h.colours n (omega arith));
    apart = λ m n l lb e o c. let len = h.lengths in
        apart_any A acc (τ m) (τ n)
        (λ t. let s : σ (τ m) ≡ σ (τ n) = ap σ t in omega (arith, h.pairing.στ m (omega arith), h.pairing.στ n (omega arith)))
        (h.pairing.home m (omega arith)) (h.pairing.home n (omega arith))
        (hues m (omega arith) ∙ e ∙ sym (hues n lb)) (λ t. o (sym (hues m (omega arith)) ∙ t))
        (subst₂ (Clash F) (sym (keys m (omega arith))) (sym (keys n lb)) c);
  }
    where
      keys : (n : ℕ) → n < length B → at A (τ n) ≡ at B n
      keys n l = ap F.key ((relisted_back σ τ A B h).bytes n l)

      hues : (n : ℕ) → n < length B → hue A (τ n) ≡ hue B n
      hues n l = ap colour (keys n l)

  -- a writer and a reader of one point keep their order
  order : (σ τ : ℕ → ℕ) (A B : List R) → Accepted A → Accepted B → Relisted σ τ A B → (m n p : ℕ) → m < n → n < length A
      → F.writes (at A m) p → F.reads (at A n) p → σ m < σ n
  order σ τ A B a b h m n p l ln w r = elim (ℕ_discrete (hue A m) (hue A n)) [
    | yes e ↦ (elim (ℕ_discrete (hue A m) overflow) [
      | yes o ↦ omega (arith, h.own m lm o, h.own n ln (sym e ∙ o))
      | no o ↦ absurd (a.apart m n l ln e o (p, inl (w, r)))
    ])
    | no e ↦ (elim (dec_lt (σ m) (σ n)) [
      | yes y ↦ y
      | no y ↦ (elim (ℕ_discrete (σ m) (σ n)) [
        | yes q ↦ absurd (e (sym (hues m lm) ∙ ap (hue B) q ∙ hues n ln))
        | no q ↦ absurd (e (let le = a.rising m n l ln in
            let ge = b.rising (σ n) (σ m) (omega arith) (subst (λ (c : ℕ). σ m < c) (sym h.lengths) (h.pairing.there m lm)) in
            omega (arith, hues m lm, hues n ln)))
      ])
    ])
  ]
    where
      lm : m < length A
      lm = omega arith

      hues : (n : ℕ) → n < length A → hue B (σ n) ≡ hue A n
      hues n l = ap (λ (x : R). colour (F.key x)) (h.bytes n l)

  abbrev Partner : (ℕ → ℕ) → List R → ℕ → ℕ → Type 0
  Partner σ A n m = (n < length A) × (σ n ≡ m)

  matched : (σ τ : ℕ → ℕ) (A B : List R) → Accepted A → Relisted σ τ A B → Match F (Partner σ A) (λ p. Unit {0}) (at A) (at B) (length A) (length B)
  matched σ τ A B a h = record {
    in_a = λ n m mm. mm.0;
    in_b = λ n m mm. let len = h.lengths in omega (arith, mm.1, h.pairing.there n mm.0);
    in_q = λ n m p mm r. tt;
    from_a = λ n p l q w. (σ n, (l, refl));
    from_b = λ m p l q w. let len = h.lengths in (τ m, (h.pairing.home m (omega arith), h.pairing.στ m (omega arith)));
    forth = λ n m n' m' p mm mm' w r l. omega (arith, mm.1, mm'.1, order σ τ A B a b h n n' p l mm'.0 w r);
    back = λ n m n' m' p mm mm' w r l.
        let e : τ m ≡ n = ap τ (sym mm.1) ∙ h.pairing.τσ n mm.0 in
        let e' : τ m' ≡ n' = ap τ (sym mm'.1) ∙ h.pairing.τσ n' mm'.0 in
        let len = h.lengths in
        omega (arith, order τ σ B A b a (relisted_back σ τ A B h) m m' p l (omega (arith, mm'.1, h.pairing.there n' mm'.0)) w r);
  }
    where
      b : Accepted B
      b = accepted_relisted σ τ A B a h

  -- DEMAND 3: the same points, and the same row at each pair, after the sweeps of any list of local steps
  pub relisted_sweeps : (fs : List (R → S → R × S)) → All-local F fs → (σ τ : ℕ → ℕ) (A B : List R) (s : S) → Accepted A → Relisted σ τ A B
      → ((p : ℕ) → F.get (sweeps fs (A, s)).1 p ≡ F.get (sweeps fs (B, s)).1 p)
      × ((n : ℕ) → n < length A → get_or (sweeps fs (A, s)).0 n d ≡ get_or (sweeps fs (B, s)).0 (σ n) d)
  relisted_sweeps fs Ls σ τ A B s a h = ((λ p. end.points p tt), (λ n l. end.rows n (σ n) (l, refl)))
    where
      end : Alike F d (Partner σ A) (λ p. Unit {0}) (sweeps fs (A, s)) (sweeps fs (B, s))
      end = sweeps_alike F d (Partner σ A) (λ p. Unit {0}) Ls (A, s) (B, s) (record {
        match = matched σ τ A B a h;
        rows = λ n m mm. sym (h.bytes n mm.0) ∙ ap (λ (k : ℕ). get_or B k d) mm.1;
        points = λ p q. refl;
      })

  pub relisted_run : (f g : R → S → R × S) → Local F f → Local F g → (k : ℕ) (σ τ : ℕ → ℕ) (A B : List R) (s : S) → Accepted A → Relisted σ τ A B
      → ((p : ℕ) → F.get (run f g k A s).1 p ≡ F.get (run f g k B s).1 p)
      × ((n : ℕ) → n < length A → get_or (run f g k A s).0 n d ≡ get_or (run f g k B s).0 (σ n) d)
  relisted_run f g L M k = relisted_sweeps (f ∷ replicate k g) (run_local F f g L M k)

-- ---- rows that are listed as bytes, run decoded, and written back

module _ {R S P K X : Type 0} (F : Access R S P K) (dec : X → R) (enc : R → X) (x₀ : X) (colour : K → ℕ) (overflow : ℕ) where
  abbrev Relisted-bytes : (ℕ → ℕ) → (ℕ → ℕ) → List X → List X → Type 0
  Relisted-bytes σ τ A B = relist.Relisted-bytes F dec enc x₀ colour overflow σ τ A B

  pub decoded : (σ τ : ℕ → ℕ) (A B : List X) → Relisted-bytes σ τ A B → Relisted F (dec x₀) colour overflow σ τ (map dec A) (map dec B)
  decoded σ τ A B h = record {
    lengths = length-map B dec ∙ h.lengths ∙ sym (length-map A dec);
    colours = λ n l. hues B n ∙ h.colours n (in_a n l) ∙ sym (hues A n);
    pairing = subst (Pairing σ τ) (sym (length-map A dec)) h.pairing;
    bytes = λ n l. simp (get_or-map dec) (ap dec (h.bytes n (in_a n l)));
    own = λ n l e. h.own n (in_a n l) (sym (hues A n) ∙ e);
  }
    where
      in_a : (n : ℕ) → n < length (map dec A) → n < length A
      in_a n l = subst (λ (c : ℕ). n < c) (length-map A dec) l

      hues : (l : List X) (n : ℕ) → colour (F.key (get_or (map dec l) n (dec x₀))) ≡ colour (F.key (dec (get_or l n x₀)))
      hues l n = ap (λ (r : R). colour (F.key r)) (get_or-map dec l n x₀)

  pub relisted_bytes : (f g : R → S → R × S) → Local F f → Local F g → (k : ℕ) (σ τ : ℕ → ℕ) (A B : List X) (s : S)
      → Accepted F (dec x₀) colour overflow (map dec A) → Relisted-bytes σ τ A B
      → ((p : ℕ) → F.get (run f g k (map dec A) s).1 p ≡ F.get (run f g k (map dec B) s).1 p)
      × ((n : ℕ) → n < length A → get_or (map enc (run f g k (map dec A) s).0) n (enc (dec x₀)) ≡ get_or (map enc (run f g k (map dec B) s).0) (σ n) (enc (dec x₀)))
  relisted_bytes f g L M k σ τ A B s a h =
      let end = relisted_run F (dec x₀) colour overflow f g L M k σ τ (map dec A) (map dec B) s a (decoded σ τ A B h) in
      (end.0, λ n l. simp (get_or-map enc) (ap enc (end.1 n (subst (λ (c : ℕ). n < c) (sym (length-map A dec)) l))))
