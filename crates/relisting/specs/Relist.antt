-- What demand 3 speaks of, over any local steps: an accepted listing A, and a relisting B of it. proofs/Relist.antt has that they, run alike, end with the same
-- points and with the same rows in each pair.
-- Assumes nothing.
use Rattle.std.specs.Prelude.{◌≡◌, ◌≢◌, ◌⊎◌, ℕ, zero, suc, ◌≤◌, ◌<◌, List, length, get_or}
use Rattle.std.proofs.Common.{subst, not-suc-le-zero, arith}
use Rattle.std.proofs.Math.Decide.{dec_lt}
use Rattle.relisting.specs.Access.{Access}

-- two rows clash where one writes a point that the other reads (or writes: what is written counts as read)
abbrev pub Clash : {R S P K : Type 0} → Access R S P K → K → K → Type 0
Clash F k l = (p : ℕ) × ((F.writes k p × F.reads l p) ⊎ (F.reads k p × F.writes l p))

-- the numbers pair one to one: σ of A's row is its partner's number in B, τ the way back
pub record Pairing (σ τ : ℕ → ℕ) (c : ℕ) : Type 0 where
  pub there : (n : ℕ) → n < c → σ n < c
  pub home : (n : ℕ) → n < c → τ n < c
  pub τσ : (n : ℕ) → n < c → τ (σ n) ≡ n
  pub στ : (n : ℕ) → n < c → σ (τ n) ≡ n

module _ {R S P K : Type 0} (F : Access R S P K) (d : R) (colour : K → ℕ) (overflow : ℕ) where
  -- row n's key, and its colour
  abbrev pub at : List R → ℕ → K
  at rows n = F.key (get_or rows n d)

  abbrev pub hue : List R → ℕ → ℕ
  hue rows n = colour (at rows n)

  -- colours never fall, and two rows of one colour clash only in the overflow
  pub record Accepted (A : List R) : Type 0 where
    pub rising : (m n : ℕ) → m < n → n < length A → hue A m ≤ hue A n
    pub apart : (m n : ℕ) → m < n → n < length A → hue A m ≡ hue A n → hue A m ≢ overflow → ¬ Clash F (at A m) (at A n)

  -- that no colour is less than the row's before it is enough
  pub rising_all : (A : List R) → ((n : ℕ) → suc n < length A → hue A n ≤ hue A (suc n)) → (m n : ℕ) → m < n → n < length A → hue A m ≤ hue A n
  rising_all A h m zero l b = absurd (not-suc-le-zero l)
  rising_all A h m (suc n) l b = elim (dec_lt m n) [
    | yes y ↦ omega (arith, rising_all A h m n y (omega arith), h n b)
    | no y ↦ subst (λ (k : ℕ). hue A k ≤ hue A (suc n)) (let e : n ≡ m = omega arith in e) (h n b)
  ]

  pub record Relisted (σ τ : ℕ → ℕ) (A B : List R) : Type 0 where
    pub lengths : length B ≡ length A
    pub colours : (n : ℕ) → n < length A → hue B n ≡ hue A n
    pub pairing : Pairing σ τ (length A)
    pub bytes : (n : ℕ) → n < length A → get_or B (σ n) d ≡ get_or A n d
    pub own : (n : ℕ) → n < length A → hue A n ≡ overflow → σ n ≡ n

-- ---- rows that are listed as bytes, run decoded, and written back

module _ {R S P K X : Type 0} (F : Access R S P K) (dec : X → R) (enc : R → X) (x₀ : X) (colour : K → ℕ) (overflow : ℕ) where
  -- the same, of the bytes
  pub record Relisted-bytes (σ τ : ℕ → ℕ) (A B : List X) : Type 0 where
    pub lengths : length B ≡ length A
    pub colours : (n : ℕ) → n < length A → colour (F.key (dec (get_or B n x₀))) ≡ colour (F.key (dec (get_or A n x₀)))
    pub pairing : Pairing σ τ (length A)
    pub bytes : (n : ℕ) → n < length A → get_or B (σ n) x₀ ≡ get_or A n x₀
    pub own : (n : ℕ) → n < length A → colour (F.key (dec (get_or A n x₀))) ≡ overflow → σ n ≡ n
