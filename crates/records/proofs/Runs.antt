-- The loop over a run of floats stops at the first refusal. Assumes nothing.
use Rattle.std.proofs.Common.{ℕ, suc, ◌+◌, ◌*◌, ◌≤◌, ◌<◌, ◌≡◌, refl, ap, ◌∙◌, List, arith, Result, Ok, Err}
use Rattle.records.specs.declared.Refused.{Refused}
use Rattle.records.specs.Answers.{Test, outcome, from, outcome_from}
use Rattle.records.specs.Fields.{run}
use Rattle.records.proofs.Rest.{Rest, rest_begin, rest_again, rest_stops, rest_ends}
use Rattle.records.proofs.Firsts.{◌and_then◌, outcome_from_append}

-- what n tests from byte p on come to
abbrev pub left : (ℕ → List Test) → ℕ → ℕ → ℕ → Result Unit Refused
left t off n p = outcome_from off (run t p n)

-- before test i of n, the first at byte k
abbrev pub Running : (ℕ → List Test) → ℕ → ℕ → ℕ → ℕ → Type 0
Running t off k n i = Rest (left t off) n k i (k + 4 * i)

module _ (t : ℕ → List Test) (off k n : ℕ) where
  pub begins : Running t off k n 0
  begins = let e : k + 4 * 0 ≡ k = omega arith in rw e (rest_begin {f = left t off} n k)

  one : (i : ℕ) {r : Result Unit Refused} → r ≡ outcome_from off (t (k + 4 * i)) → (m : ℕ) → left t off (suc m) (k + 4 * i) ≡ (r and_then left t off m (k + 4 * i + 4))
  unfolding run
  one i e m = outcome_from_append off (t (k + 4 * i)) (run t (k + 4 * i + 4) m) ∙ rw e refl

  pub refuses : {i : ℕ} {r : Result Unit Refused} {e : Refused} → Running t off k n i → i < n → r ≡ outcome_from off (t (k + 4 * i)) → r ≡ Err e → Err e ≡ outcome_from off (run t k n)
  refuses {i} w h q z = rest_stops w h (λ m. one i q m ∙ ap (λ (x : Result Unit Refused). x and_then left t off m (k + 4 * i + 4)) z)

  pub again : {i : ℕ} {r : Result Unit Refused} {u : Unit} → Running t off k n i → i < n → r ≡ outcome_from off (t (k + 4 * i)) → r ≡ Ok u → Running t off k n (i + 1)
  again {i} w h q z =
      let e : k + 4 * i + 4 ≡ k + 4 * (i + 1) = omega arith in
      rest_again (k + 4 * (i + 1)) w h (λ m. one i q m ∙ ap (λ (x : Result Unit Refused). x and_then left t off m (k + 4 * i + 4)) z ∙ ap (left t off m) e)

  pub ends : {i : ℕ} → Running t off k n i → n ≤ i → Ok tt ≡ outcome_from off (run t k n)
  unfolding run outcome from
  ends w h = rest_ends w h
