-- Any loop that goes by what is left to do: from its present state it comes to what was to do at the start. Assumes nothing.
use Rattle.std.proofs.Common.{ℕ, suc, ◌+◌, ◌-◌, ◌≤◌, ◌<◌, ◌≡◌, sym, ap, ◌∙◌, arith}
use Rattle.std.proofs.Math.Nat.{sub-zero}

-- before turn i of n the state is a; f k a is what k more turns make of it
pub record Rest {A B : Type 0} (f : ℕ → A → B) (n : ℕ) (a₀ : A) (i : ℕ) (a : A) : Type 0 where
  pub turns : i ≤ n
  pub rest : f (n - i) a ≡ f n a₀

pub sub_turn : (n i : ℕ) → i < n → n - i ≡ suc (n - (i + 1))
sub_turn n i h = omega arith

module _ {A B : Type 0} {f : ℕ → A → B} where
  pub rest_begin : (n : ℕ) (a : A) → Rest f n a 0 a
  rest_begin n a = record { turns = omega arith; rest = ap (λ (k : ℕ). f k a) (sub-zero n) }

  rest_turn : {n : ℕ} {a₀ : A} {i : ℕ} {a : A} → Rest f n a₀ i a → i < n → f (suc (n - (i + 1))) a ≡ f n a₀
  rest_turn {n} {i = i} {a = a} w h = ap (λ (k : ℕ). f k a) (sym (sub_turn n i h)) ∙ w.rest

  -- one more turn takes a to b, or comes to a result, or none is left
  pub rest_again : {n : ℕ} {a₀ : A} {i : ℕ} {a : A} (b : A) → Rest f n a₀ i a → i < n → ((k : ℕ) → f (suc k) a ≡ f k b) → Rest f n a₀ (i + 1) b
  rest_again {n} {a₀} {i} {a} b w h e = record { turns = omega arith; rest = sym (e (n - (i + 1))) ∙ rest_turn w h }

  pub rest_stops : {n : ℕ} {a₀ : A} {i : ℕ} {a : A} {b : B} → Rest f n a₀ i a → i < n → ((k : ℕ) → f (suc k) a ≡ b) → b ≡ f n a₀
  rest_stops {n} {i = i} w h e = sym (e (n - (i + 1))) ∙ rest_turn w h

  pub rest_ends : {n : ℕ} {a₀ : A} {i : ℕ} {a : A} → Rest f n a₀ i a → n ≤ i → f 0 a ≡ f n a₀
  rest_ends {n} {i = i} {a = a} w h = let z : n - i ≡ 0 = omega arith in ap (λ (k : ℕ). f k a) (sym z) ∙ w.rest
