-- Laws of the loop over resweeps, and of a main sweep and the resweeps behind it. Assumes nothing.
use Rattle.std.proofs.Common.{ℕ, ◌+◌, ◌*◌, ◌-◌, ◌≤◌, ◌<◌, ◌≡◌, sym, ap, ◌∙◌, subst, List, ◌++◌, arith, length, replicate, length-append}
use Rattle.std.proofs.Math.Nat.{sub-zero}
use Rattle.records.proofs.Rest.{sub_turn}
use Rattle.records.specs.Records.{flatten}
use Rattle.relisting.specs.Steps.{sweep, sweeps}
use Rattle.stored.specs.Run.{lay}
use Rattle.points.proofs.Bridge.{length-points}
use Rattle.stored.specs.Points.{Points, resweep_step}
use Rattle.stored.specs.Sizes.{resweep_steady}
use Rattle.sweep.specs.Laid.{phases, Laid, Ready, Swept, Reswept, Ran}
use Rattle.sweep.specs.declared.Phases.{Phases}
use Rattle.sweep.specs.declared.Turn.TheVariants.{Main, Resweep}
use Rattle.sweep.proofs.Sweeps.{rows_many, points_many, step_steady}

pub record Resweeping (k n r : ℕ) (h : List ℕ) (x : List (List ℕ) × Points) (i : ℕ) (s : List ℕ) : Type 0 where
  pub now_x : List (List ℕ) × Points
  pub laid : Laid s h now_x
  pub size : length now_x.1 ≡ n
  pub count : length now_x.0 ≡ r
  pub total : sweeps (replicate (k - i) (resweep_step n)) now_x ≡ sweeps (replicate k (resweep_step n)) x

abbrev pub Again : ℕ → ℕ → ℕ → List ℕ → ℕ → List ℕ → Type 0
Again k n r s₀ i s = (h : List ℕ) (x : List (List ℕ) × Points) → Laid s₀ h x → length x.1 ≡ n → length x.0 ≡ r → Resweeping k n r h x i s

module _ (k n r : ℕ) (s₀ : List ℕ) where
  pub again_begins : Again k n r s₀ 0 s₀
  again_begins h x l p q = record {
    now_x = x;
    laid = l;
    size = p;
    count = q;
    total = ap (λ (j : ℕ). sweeps (replicate j (resweep_step n)) x) (sub-zero k);
  }

  module _ (i : ℕ) (s : List ℕ) (a : Again k n r s₀ i s) where
    pub again_ready : Ready n r s₀ → Ready n r s
    again_ready y =
        let b = a y.h y.x y.laid y.size y.count in
        record { h = y.h; x = b.now_x; laid = b.laid; size = b.size; count = b.count; few = y.few; few_r = y.few_r }

    pub again_again : (s' : List ℕ) → i < k → Swept Resweep n r s s' → Again k n r s₀ (i + 1) s'
    again_again s' less w h x l p q =
        let b = a h x l p q in
        record {
          now_x = sweep (resweep_step n) b.now_x.0 b.now_x.1;
          laid = w h b.now_x b.laid b.size b.count;
          size = points_many (resweep_step n) (resweep_steady n) b.now_x.0 b.now_x.1 ∙ b.size;
          count = rows_many (resweep_step n) (resweep_steady n) b.now_x.0 b.now_x.1 ∙ b.count;
          total = ap (λ (j : ℕ). sweeps (replicate j (resweep_step n)) b.now_x) (sym (sub_turn k i less)) ∙ b.total;
        }

    pub again_ends : k ≤ i → Reswept k n r s₀ s
    again_ends more h x l p q =
        let b = a h x l p q in
        let z : k - i ≡ 0 = omega arith in
        subst (Laid s h) (ap (λ (j : ℕ). sweeps (replicate j (resweep_step n)) b.now_x) (sym z) ∙ b.total) b.laid

pub both_sweeps : (t : Phases) (k n r : ℕ) (s s' s'' : List ℕ) → Swept (Main t) n r s s' → Reswept k n r s' s'' → Ran t k n r s s''
both_sweeps t k n r s s' s'' w v h x l p q =
    v h (sweep (phases n t) x.0 x.1) (w h x l p q)
    (points_many (phases n t) (step_steady n (Main t)) x.0 x.1 ∙ p)
    (rows_many (phases n t) (step_steady n (Main t)) x.0 x.1 ∙ q)

-- from the frame as it was, and to the one that is put together again
pub all_swept : (t : Phases) (k n r : ℕ) (s₀ M₀ M₁ M₂ s₃ : List ℕ) → M₀ ≡ s₀ → Swept (Main t) n r M₀ M₁ → Reswept k n r M₁ M₂ → s₃ ≡ M₂ → Ran t k n r s₀ s₃
all_swept t k n r s₀ M₀ M₁ M₂ s₃ e w v f =
    subst (λ (a : List ℕ). Ran t k n r a s₃) e (subst (λ (b : List ℕ). Ran t k n r M₀ b) (sym f) (both_sweeps t k n r M₀ M₁ M₂ w v))

pub ready_long : (n r : ℕ) (s : List ℕ) → Ready n r s → 26 + 30 * n ≤ length s
unfolding lay
ready_long n r s y =
    omega (arith, ap length y.laid.bytes, length-append y.h (flatten y.x.1 ++ flatten y.x.0), length-append (flatten y.x.1) (flatten y.x.0), length-points y.x.1 y.laid.points, y.laid.head, y.size)
