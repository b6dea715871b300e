-- What the inner functions answer that cite it here: the tests of a run, and a record's shape. No rule is made with it. Assumes nothing.
use Rattle.std.specs.Prelude.{ℕ, ◌+◌, ◌≤◌, ◌≡◌, List, length, Result, Ok, Err}
use Rattle.records.specs.declared.Refused.{Refused}
use Rattle.records.specs.Answers.{Test, outcome_from}
use Rattle.records.specs.Fields.{run}

-- at each float of b the calls of a test answer what the rule t does
abbrev pub Tests : (ℕ → Result Unit Refused → Type 0) → List ℕ → ℕ → (ℕ → List Test) → Type 0
Tests call b off t = (p : ℕ) (r : Result Unit Refused) → p + 4 ≤ length b → call p r → r ≡ outcome_from off (t p)

-- r is the outcome of n calls of a test, one after another from byte k on
abbrev pub RunsTo : (ℕ → Result Unit Refused → Type 0) → List ℕ → ℕ → ℕ → ℕ → Result Unit Refused → Type 0
RunsTo call b off k n r = (t : ℕ → List Test) → Tests call b off t → r ≡ outcome_from off (run t k n)

-- the refusal, or that there is none, whatever was found
abbrev pub refusal_of : {A : Type 0} → Result A Refused → Result Unit Refused
refusal_of (Ok a) = Ok tt
refusal_of (Err e) = Err e
