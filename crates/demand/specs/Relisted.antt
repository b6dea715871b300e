-- Relisted frames, in the words of document 01. Definitions only. Assumes nothing.
use Rattle.std.specs.Prelude.{ℕ, ◌<◌, ◌≡◌, List, ◌++◌, length}
use Rattle.relisting.specs.Relist.{Pairing}
use Rattle.records.specs.Records.{flatten}
use Rattle.clash.specs.Clash.{overflow}
use Rattle.frame.specs.Frames.{head, points, rows}
use Rattle.acceptance.specs.Whole.{row, colour_of}

-- B IS A RELISTING OF A: A's head and points, byte for byte, and then rows bs. σ takes a row's number in A to its partner's in B, τ goes back.
pub record Relisting (A B : List ℕ) (bs : List (List ℕ)) (σ τ : ℕ → ℕ) : Type 0 where
  pub made : B ≡ head A ++ (flatten (points A) ++ flatten bs)
  pub as_many : length bs ≡ length (rows A)
  pub same_colour : (n : ℕ) → n < length (rows A) → colour_of bs n ≡ colour_of (rows A) n
  pub one_to_one : Pairing σ τ (length (rows A))
  pub same_bytes : (n : ℕ) → n < length (rows A) → row bs (σ n) ≡ row (rows A) n
  pub overflow_own : (n : ℕ) → n < length (rows A) → colour_of (rows A) n ≡ overflow → σ n ≡ n
