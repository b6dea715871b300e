-- WHAT FORMRUN WRITES for the bytes that it read. Assumes nothing.
use Rattle.std.specs.Prelude.{ℕ, zero, suc, ◌+◌, ◌/◌, ◌%◌, cond, List, [], ◌∷◌, ◌++◌, length, ltb, eqb}
use Rattle.frame.specs.Check.{check_of}
use Rattle.stored.specs.Run.{leaves}

-- n in decimal, as bytes, with at most so many digits: the digits before the last, and the last; no zeros in front
unfoldable pub decimal_in : ℕ → ℕ → List ℕ
decimal_in zero n = []
decimal_in (suc k) n = cond (ltb n 10) ((48 + n) ∷ []) (decimal_in k (n / 10) ++ ((48 + n % 10) ∷ []))

-- a u64 has at most 20 digits
unfoldable pub decimal : ℕ → List ℕ
decimal n = decimal_in 20 n

-- "refused ", " at ", "too long" and a newline
abbrev pub refused_word : List ℕ
refused_word = 114 ∷ 101 ∷ 102 ∷ 117 ∷ 115 ∷ 101 ∷ 100 ∷ 32 ∷ []

abbrev pub at_word : List ℕ
at_word = 32 ∷ 97 ∷ 116 ∷ 32 ∷ []

abbrev pub too_long : List ℕ
too_long = 116 ∷ 111 ∷ 111 ∷ 32 ∷ 108 ∷ 111 ∷ 110 ∷ 103 ∷ 10 ∷ []

abbrev pub newline : List ℕ
newline = 10 ∷ []

-- `refused NUMBER at PLACE` and a newline
unfoldable pub refusal : ℕ → ℕ → List ℕ
refusal number place = refused_word ++ (decimal number ++ (at_word ++ (decimal place ++ newline)))

-- more than 65,536 bytes are too long for a frame; a frame that check accepts is written as the run leaves it; one that it refuses gives the line
unfoldable pub output_of : List ℕ → List ℕ
output_of s = cond (ltb 65536 (length s)) too_long (cond (eqb (check_of s).number 0) (leaves s) (refusal (check_of s).number (check_of s).place))
