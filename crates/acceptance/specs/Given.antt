-- When each number is given. Definitions only. Assumes nothing.
use Rattle.std.specs.Prelude.{ℕ, zero, suc, ◌+◌, ◌≤◌, ◌<◌, ◌≡◌, true, false, ◌⊎◌, ◌≢◌, length, List, ◌∷◌, ◌++◌}
use mathlib.Core.List.{Memᴰ}
use Rattle.little_endian.specs.Bytes.{le16, le32}
use Rattle.records.specs.declared.Due.{Due}
use Rattle.records.specs.declared.Due.TheVariants.{Head, Point, Row}
use Rattle.records.specs.Layout.{kind_at, row_colour, head_end}
use Rattle.records.specs.Answers.{Test, number_of, Passed}
use Rattle.records.specs.Fields.{fields}
use Rattle.records.specs.Records.{is_due, record_length, record_at, record_tests, records_tests, end_of}
use Rattle.clash.specs.Clash.{overflow, Key, key_of}
use Rattle.frame.specs.Frames.{count_n, count_r, rows_at, rows_end}

-- the first of the tests that fails has number n and place p
pub record FirstFailure (ts : List Test) (n p : ℕ) : Type 0 where
  pub before : List Test
  pub test : Test
  pub after : List Test
  pub split : ts ≡ before ++ (test ∷ after)
  pub passed : Passed before
  pub fails : test.fails ≡ true
  pub number : number_of test.refusal ≡ n
  pub place : test.place ≡ p

-- the colour of the row before record i of those from off on
unfoldable pub colour_before : ℕ → List ℕ → ℕ → ℕ → ℕ
colour_before zero s off c = c
colour_before (suc i) s off c = colour_before i s (off + record_length s off) (le16 s (off + row_colour))

-- CHECK GETS TO the record at off, where w is due, after a row of colour c: every record before it passes all its tests
pub data Reached (s : List ℕ) : Due → ℕ → ℕ → Type 0 where
  at_head : Reached s Head 0 0
  at_point : (i : ℕ) → i < count_n s → Passed (record_tests Head s 0 0) → Passed (records_tests Point i s head_end 0)
      → Reached s Point (end_of i s head_end) (colour_before i s head_end 0)
  at_row : (i : ℕ) → i < count_r s → Passed (record_tests Head s 0 0) → Passed (records_tests Point (count_n s) s head_end 0) → Passed (records_tests Row i s (rows_at s) 0)
      → Reached s Row (end_of i s (rows_at s)) (colour_before i s (rows_at s) 0)

-- every record passes all its tests
pub record AllPass (s : List ℕ) : Type 0 where
  pub the_head : Passed (record_tests Head s 0 0)
  pub the_points : Passed (records_tests Point (count_n s) s head_end 0)
  pub the_rows : Passed (records_tests Row (count_r s) s (rows_at s) 0)

-- 1 at p: fewer than 6 bytes remain, or the record, whose kind and length are due, is not whole
pub record Given1 (s : List ℕ) (p : ℕ) : Type 0 where
  pub due : Due
  pub colour : ℕ
  pub reached : Reached s due p colour
  pub cut : (length s < p + 6) ⊎ ((p + 6 ≤ length s) × (is_due due (le16 s (p + kind_at)) (le32 s p) ≡ true) × (length s < p + record_length s p))

-- 2 at p: six bytes are there, and the kind and length are not due
pub record Given2 (s : List ℕ) (p : ℕ) : Type 0 where
  pub due : Due
  pub colour : ℕ
  pub reached : Reached s due p colour
  pub six : p + 6 ≤ length s
  pub other : is_due due (le16 s (p + kind_at)) (le32 s p) ≡ false

-- 3 to 7, n at p: the record at off is due and whole, and of its fields' tests the first that fails has number n, at byte k of the record
-- (Faults.antt says of each of these numbers which field it is and what its bytes hold)
pub record GivenField (n : ℕ) (s : List ℕ) (p : ℕ) : Type 0 where
  pub due : Due
  pub off : ℕ
  pub colour : ℕ
  pub reached : Reached s due off colour
  pub here : is_due due (le16 s (off + kind_at)) (le32 s off) ≡ true
  pub whole : off + record_length s off ≤ length s
  pub k : ℕ
  pub first : FirstFailure (fields (record_at s off) colour) n k
  pub place : p ≡ off + k

-- 8 at p: every record passes, and there are bytes from p on, where the last one ends
pub record Given8 (s : List ℕ) (p : ℕ) : Type 0 where
  pub all_pass : AllPass s
  pub place : p ≡ rows_end s
  pub more : rows_end s < length s

-- two rows of these keys clash: they have one colour, not the overflow, and both name the point x, which is in range
pub record Meet (N : ℕ) (q k : Key) : Type 0 where
  pub one_colour : q.colour ≡ k.colour
  pub coloured : k.colour ≢ overflow
  pub x : ℕ
  pub within_range : x < N
  pub earlier : Memᴰ x q.ids
  pub later : Memᴰ x k.ids

-- the key of row i
abbrev pub key_at : List ℕ → ℕ → Key
key_at s i = key_of (record_at s (end_of i s (rows_at s)))

-- 9 at p: every record passes and nothing follows; row i, which starts at p, clashes with an earlier one, and no row before i does
pub record Given9 (s : List ℕ) (p : ℕ) : Type 0 where
  pub all_pass : AllPass s
  pub no_more : length s ≤ rows_end s
  pub i : ℕ
  pub is_row : i < count_r s
  pub place : p ≡ end_of i s (rows_at s)
  pub j : ℕ
  pub before : j < i
  pub clash : Meet (count_n s) (key_at s j) (key_at s i)
  pub none_earlier : (m n : ℕ) → m < n → n < i → Meet (count_n s) (key_at s m) (key_at s n) → ⊥
