-- Floats as put_f32 writes them: of a NaN's patterns 0x7FC00000 alone. The code that reads rows cites this; a reader of the rules does not
-- need it. Definitions only. Assumes nothing.
use Rattle.std.specs.Prelude.{ℕ, ◌+◌, ◌%◌, ◌≤◌, ◌<◌, ◌≡◌, List, length}
use Rattle.little_endian.specs.Bytes.{le32}

-- a pattern
abbrev pub Written : ℕ → Type 0
Written n = 2139095040 < n % 2147483648 → n ≡ 2143289344

-- every float of a row's record: they lie one after another from byte 30 on
pub record AllWritten (b : List ℕ) : Type 0 where
  pub at : (k : ℕ) → 30 ≤ k → k % 4 ≡ 2 → k + 4 ≤ length b → Written (le32 b k)

-- n bytes of floats, from k on, can be read from such a record
pub record Reads (n k : ℕ) (b : List ℕ) : Type 0 where
  pub inside : k + n ≤ length b
  pub first : 30 ≤ k
  pub turn : k % 4 ≡ 2
  pub written : AllWritten b

-- b' is b after some of its fields were put
abbrev pub Kept : List ℕ → List ℕ → Type 0
Kept b b' = AllWritten b → AllWritten b'

-- b' is b after floats were put from k on
abbrev pub Stays : ℕ → List ℕ → List ℕ → Type 0
Stays k b b' = 30 ≤ k → k % 4 ≡ 2 → Kept b b'
