-- Refusal 9: two rows of one colour, not the overflow, name one point in range. Assumes nothing.
use Rattle.std.specs.Prelude.{ℕ, zero, suc, ◌+◌, Bool, false, cond, not, ◌&&◌, ◌||◌, List, [], ◌∷◌, take, ltb, eqb}
use Rattle.little_endian.specs.Bytes.{le16, le32}
use Rattle.records.specs.Layout.{kind_at, row_colour, scalar_count, row_ids}
use Rattle.records.specs.declared.Refusal.TheVariants.{Clash}
use Rattle.records.specs.Answers.{Test, ◌then◌, refuse}
use Rattle.records.specs.Records.{record_length, record_at}

-- the colour of the overflow
abbrev pub overflow : ℕ
overflow = 65535

-- a row's colour and the ids that it names: a scalar row its first `count`, an elastic row all four
pub record Key : Type 0 where
  pub colour : ℕ
  pub ids : List ℕ

unfoldable pub count_of : List ℕ → ℕ
count_of b = cond (eqb (le16 b kind_at) 3) (le16 b scalar_count) 4

unfoldable pub key_of : List ℕ → Key
key_of b = record {
  colour = le16 b row_colour;
  ids = take (count_of b) (le32 b row_ids ∷ le32 b (row_ids + 4) ∷ le32 b (row_ids + 8) ∷ le32 b (row_ids + 12) ∷ []);
}

unfoldable pub any_of : {A : Type 0} → (A → Bool) → List A → Bool
any_of t [] = false
any_of t (x ∷ xs) = t x || any_of t xs

-- a row q of colour c names x
unfoldable pub named_by : ℕ → ℕ → Key → Bool
named_by c x q = eqb q.colour c && any_of (eqb x) q.ids

-- the row q, which is no overflow row, names a point below N that one of the rows before it names, that one of q's colour
unfoldable pub clashes : ℕ → List Key → Key → Bool
clashes N before q = not (eqb q.colour overflow) && any_of (λ x. ltb x N && any_of (named_by q.colour x) before) q.ids

-- 9, at its start, for each of k rows, the first at off, that clashes with one before it
unfoldable pub clash_tests : ℕ → ℕ → List ℕ → ℕ → List Key → List Test
clash_tests N zero s off before = []
clash_tests N (suc k) s off before =
    refuse Clash off (clashes N before (key_of (record_at s off)))
    then clash_tests N k s (off + record_length s off) (key_of (record_at s off) ∷ before)
