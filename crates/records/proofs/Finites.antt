-- The quick test of a run of floats: what its loop has found so far, and that where it passes the run has no refusal. Assumes nothing.
use Rattle.std.proofs.Common.{ℕ, zero, suc, ◌+◌, ◌-◌, ◌*◌, ◌≤◌, ◌<◌, ◌≡◌, refl, sym, ◌∙◌, Bool, true, false, ◌&&◌, List, arith, Ok}
use Rattle.little_endian.specs.Bytes.{f32_at, is_finite}
use Rattle.records.specs.Answers.{outcome, from, outcome_from}
use Rattle.records.specs.Fields.{run, finite}
use Rattle.records.specs.AllFinite.{all_finite}
use Rattle.records.proofs.ByKind.{and_both}

-- after i of n floats `all` says whether those are finite: with what is left it says whether all n are
pub record Sofar (b : List ℕ) (k n i : ℕ) (all : Bool) : Type 0 where
  pub whole : (all && all_finite b (k + 4 * i) (n - i)) ≡ all_finite b k n

one_more : (all f rest : Bool) → ((all && f) && rest) ≡ (all && (f && rest))
one_more true f rest = refl
one_more false f rest = refl

and_true : (all : Bool) → (all && true) ≡ all
and_true true = refl
and_true false = refl

module _ {b : List ℕ} {k n : ℕ} where
  pub sofar_none : Sofar b k n 0 true
  sofar_none = let e : k + 4 * 0 ≡ k = omega arith in let z : n - 0 ≡ n = omega arith in record { whole = simp (e, z) }

  pub sofar_more : {i : ℕ} {all f : Bool} → Sofar b k n i all → i < n → f ≡ is_finite (f32_at b (k + 4 * i)) → Sofar b k n (i + 1) (all && f)
  unfolding all_finite
  sofar_more {i} {all} {f} w h e =
      let m : n - i ≡ suc (n - (i + 1)) = omega arith in
      let p : k + 4 * i + 4 ≡ k + 4 * (i + 1) = omega arith in
      let s : (all && (is_finite (f32_at b (k + 4 * i)) && all_finite b (k + 4 * (i + 1)) (n - (i + 1)))) ≡ all_finite b k n = rw (m, p) at w.whole in
      record { whole = one_more all f (all_finite b (k + 4 * (i + 1)) (n - (i + 1))) ∙ rw e s }

  pub sofar_all : {i : ℕ} {all : Bool} → Sofar b k n i all → n ≤ i → all ≡ all_finite b k n
  unfolding all_finite
  sofar_all {i} {all} w h =
      let m : n - i ≡ 0 = omega arith in
      let s : (all && true) ≡ all_finite b k n = rw m at w.whole in
      sym (and_true all) ∙ s

pub all_pass : (b : List ℕ) (off k n : ℕ) → all_finite b k n ≡ true → Ok tt ≡ outcome_from off (run (finite b) k n)
unfolding all_finite outcome from run finite
all_pass b off k zero h = refl
all_pass b off k (suc n) h =
    let both = and_both (is_finite (f32_at b k)) (all_finite b (k + 4) n) h in
    rw both.0 (all_pass b off (k + 4) n both.1)
