-- The number that the library prints is `decimal` of it, and a refusal that prints itself is `refusal` of its number and place. Assumes nothing.
use Rattle.std.proofs.Common.{◌≡◌, refl, sym, ap, List, [], ◌∷◌, ◌++◌, append_assoc, ℕ, ◌^◌, ◌<◌, arith, lt-ltb, le-ltb}
use Rattle.std.specs.Fmt as fmt
use Rattle.std.proofs.lemmas.Fmt.{AppendsLastDigit, decimal_from_appends, length-decimal-le}
use Rattle.records.specs.declared.Refusal.{Refusal}
use Rattle.records.specs.declared.Refusal.TheVariants.{NotWhole, NotDue, TooMany, BadCode, NotFinite, Disordered, ColourFalls, ExtraBytes}
use Rattle.records.specs.declared.Refusal.TheVariants.{Clash}
use Rattle.records.specs.declared.Refused.{Refused}
use Rattle.records.specs.Answers.{number_of}
use Rattle.records.specs.Text.{refused_text}
use Rattle.formrun.specs.Output.{decimal_in, decimal, refusal, refused_word, at_word}

appends : AppendsLastDigit decimal_in
unfolding decimal_in
appends = record { one = λ k n h. rw (lt-ltb n 10 h) refl; more = λ k n h. rw (le-ltb n 10 h) refl }

pub printed : (n : ℕ) → n < 2 ^ 64 → fmt.decimal n ≡ decimal n
unfolding decimal
printed n small =
    let fits : n < 10 ^ 20 = omega (arith, small) in
    sym (decimal_from_appends decimal_in appends 20 n small (length-decimal-le 20 n (omega arith) fits small))

-- a refusal by its own Display, and a newline
number_small : (r : Refusal) → number_of r < 10
number_small NotWhole = omega arith
number_small NotDue = omega arith
number_small TooMany = omega arith
number_small BadCode = omega arith
number_small NotFinite = omega arith
number_small Disordered = omega arith
number_small ColourFalls = omega arith
number_small ExtraBytes = omega arith
number_small Clash = omega arith

pub line_of : (r : Refused) → r.place < 2 ^ 64 → refused_text r ++ (10 ∷ []) ≡ refusal (number_of r.why) r.place
unfolding refusal
line_of r small =
    rw (← printed (number_of r.why) (omega (arith, number_small r.why)), ← printed r.place small)
    (ap (λ (l : List ℕ). refused_word ++ l) (append_assoc (fmt.decimal (number_of r.why)) (at_word ++ fmt.decimal r.place) (10 ∷ [])))
