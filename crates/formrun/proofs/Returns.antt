-- What each return of `answer` gives is the output. Assumes nothing.
use Rattle.std.specs.Prelude.{◌≡◌, ℕ, ◌<◌, ◌≤◌, List, length, Result, Ok, Err}
use Rattle.std.proofs.Common.{refl, lt-ltb, le-ltb, ne_eqb}
use Rattle.records.specs.declared.Refused.{Refused}
use Rattle.records.specs.Answers.{number_of, answer_of}
use Rattle.records.proofs.Firsts.{never_0}
use Rattle.frame.specs.Check.{check_of}
use Rattle.stored.specs.Run.{leaves}
use Rattle.formrun.specs.Output.{output_of, too_long, refusal}

module _ (s : List ℕ) where
  pub longer : 65536 < length s → too_long ≡ output_of s
  unfolding output_of
  longer long = rw (lt-ltb 65536 (length s) long) refl

  module _ (o : Result Unit Refused) (short : length s ≤ 65536) (e : answer_of o ≡ check_of s) where
    pub accepted : (p : List ℕ) → p ≡ leaves s → (u : Unit) → o ≡ Ok u → p ≡ output_of s
    unfolding output_of
    accepted p l u z = rw (le-ltb 65536 (length s) short, ← e, z) l

    pub refused : (x : Refused) → o ≡ Err x → refusal (number_of x.why) x.place ≡ output_of s
    unfolding output_of
    refused x z = rw (le-ltb 65536 (length s) short, ← e, z, ne_eqb (number_of x.why) 0 (never_0 x.why)) refl
