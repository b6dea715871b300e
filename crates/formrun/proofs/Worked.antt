-- Document 01's example of formrun, and that the first 65,537 bytes of the input decide. Assumes nothing.
use Rattle.std.proofs.Common.{◌≡◌, refl, ap, subst, ◌∙◌, Bool, true, false, List, [], ◌∷◌, ℕ, ◌≤◌, ◌<◌, arith, leb, length, take, take_all}
use Rattle.std.proofs.Common.{length-take-le, leb-true, leb-false, lt-ltb, None, Some, IfSome}
use Rattle.std.specs.declared.option.Option.{Option}
use Rattle.std.specs.Io.KnownBytes.{Appends}
use Rattle.records.specs.Answers.{first_of, from}
use Rattle.records.specs.Records.{record_tests, shape}
use Rattle.frame.specs.Check.{frame_tests, check_of}
use Rattle.formrun.specs.Reading.{Brought}
use Rattle.formrun.specs.Output.{output_of, refusal, decimal, decimal_in}

-- no input: `refused 1 at 0` and a newline
pub of_nothing : output_of [] ≡ 114 ∷ 101 ∷ 102 ∷ 117 ∷ 115 ∷ 101 ∷ 100 ∷ 32 ∷ 49 ∷ 32 ∷ 97 ∷ 116 ∷ 32 ∷ 48 ∷ 10 ∷ []
unfolding output_of refusal decimal decimal_in check_of frame_tests record_tests shape first_of from
of_nothing = refl

-- a buffer of 65,537 bytes, or more, is enough to tell
pub enough : (room : ℕ) (s : List ℕ) → 65537 ≤ room → output_of (take room s) ≡ output_of s
unfolding output_of
enough room s h = pick (leb (length s) room) refl
  where
    pick : (b : Bool) → leb (length s) room ≡ b → output_of (take room s) ≡ output_of s
    pick true e = ap output_of (take_all room s (leb-true (length s) room e))
    pick false e =
        let long : room < length s = leb-false (length s) room e in
        let more : 65536 < length s = omega arith in
        let most : 65536 < room = omega arith in
        let least : room ≤ length s = omega arith in
        rw (length-take-le room s least, lt-ltb 65536 (length s) more, lt-ltb 65536 room most)

pub first_decide : (s : List ℕ) → output_of (take 65537 s) ≡ output_of s
first_decide s = enough 65537 s (omega arith)

-- what is written is the output of the whole input, where it is known
pub served : (known old new : Option (List ℕ)) (len : ℕ) (s bytes : List ℕ) → 65537 ≤ length s → IfSome known (Brought len s) → bytes ≡ output_of (take len s)
    → Appends old new bytes → IfSome known (λ xs. Appends old new (output_of xs))
served None old new len s bytes room read e h = tt
served (Some xs) old new len s bytes room read e h = subst (Appends old new) (e ∙ ap output_of read ∙ enough (length s) xs room) h
