-- DEMAND 3, as one statement about two whole runs. Definitions only. Assumes nothing.
use Rattle.std.specs.Prelude.{ℕ, ◌<◌, ◌≡◌, List, ◌++◌, length}
use Rattle.records.specs.Answers as answer
use Rattle.records.specs.Records.{flatten}
use Rattle.frame.specs.Frames.{head, points, rows}
use Rattle.frame.specs.Check.{check_of}
use Rattle.acceptance.specs.Whole.{row}
use Rattle.stored.specs.Run.{answers, leaves, swept}
use Rattle.stored.specs.Sizes.{Same}
use Rattle.demand.specs.Relisted.{Relisting}

-- WHAT A RUN LEAVES OF AN ACCEPTED FRAME: its head, and the points and rows that the sweeps leave, and nothing else; each record as long as it was and of its kind
pub record Left (A : List ℕ) : Type 0 where
  pub bytes : leaves A ≡ head (leaves A) ++ (flatten (points (leaves A)) ++ flatten (rows (leaves A)))
  pub own_head : head (leaves A) ≡ head A
  pub its_points : points (leaves A) ≡ (swept A).1
  pub its_rows : rows (leaves A) ≡ (swept A).0
  pub same_points : Same (points (leaves A)) (points A)
  pub same_rows : Same (rows (leaves A)) (rows A)

-- B, whose rows are paired with those of A by σ, is run as A is
pub record RunsAlike (A B : List ℕ) (σ : ℕ → ℕ) : Type 0 where
  -- check returns 0 at 0 for B
  pub accepted : check_of B ≡ answer.accepted
  -- run returns the same number and place
  pub same_answer : answers A ≡ answers B
  -- and leaves the same bytes in both heads, in each point, and in the two rows of each pair
  pub same_head : head (leaves A) ≡ head (leaves B)
  pub same_points : points (leaves A) ≡ points (leaves B)
  pub same_rows : (n : ℕ) → n < length (rows A) → row (rows (leaves A)) n ≡ row (rows (leaves B)) (σ n)

-- for every accepted A, every relisting B of it and every such pairing
abbrev pub Demand3 : Type 0
Demand3 = (A B : List ℕ) (bs : List (List ℕ)) (σ τ : ℕ → ℕ) → check_of A ≡ answer.accepted → Relisting A B bs σ τ → RunsAlike A B σ
