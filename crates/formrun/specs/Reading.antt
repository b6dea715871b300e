-- What holds of the bytes that were read. Assumes nothing.
use Rattle.std.specs.Prelude.{ℕ, ◌≤◌, ◌≡◌, List, length, take, Result, IfOk}

-- at most so many bytes, where the read did not fail
abbrev pub Within : {E : Type 0} → ℕ → Result ℕ E → Type 0
Within most r = IfOk r (λ n. n ≤ most)

-- the first n bytes are as they were
abbrev pub Kept : ℕ → List ℕ → List ℕ → Type 0
Kept n s s' = take n s' ≡ take n s

-- the first n bytes are those of the input, or as many of them as there is room for
abbrev pub Brought : ℕ → List ℕ → List ℕ → Type 0
Brought n s xs = take n s ≡ take (length s) xs
