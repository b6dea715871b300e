-- Records one after another in a frame's bytes, and the tests of each. Assumes nothing.
use Rattle.std.specs.Prelude.{ℕ, zero, suc, ◌+◌, Bool, not, ◌&&◌, ◌||◌, List, [], ◌∷◌, ◌++◌, length, ltb, eqb}
use Rattle.little_endian.specs.Bytes.{le16, le32, part}
use Rattle.records.specs.declared.Due.{Due}
use Rattle.records.specs.declared.Due.TheVariants.{Head, Point, Row}
use Rattle.records.specs.Layout.{kind_at, row_colour}
use Rattle.records.specs.declared.Refusal.TheVariants.{NotWhole, NotDue}
use Rattle.records.specs.Answers.{Test, ◌then◌, refuse, from}
use Rattle.records.specs.Fields.{fields}

-- what is due at a place: a kind together with its length
unfoldable pub is_pair : ℕ → ℕ → ℕ → ℕ → Bool
is_pair kind len k n = eqb kind k && eqb len n

unfoldable pub is_due : Due → ℕ → ℕ → Bool
is_due Head kind len = is_pair kind len 1 22
is_due Point kind len = is_pair kind len 2 26
is_due Row kind len = is_pair kind len 3 178 || (is_pair kind len 4 614 || is_pair kind len 5 674)

-- the record that starts at off: the 4 bytes of its length, and that many more
abbrev pub record_length : List ℕ → ℕ → ℕ
record_length s off = 4 + le32 s off

abbrev pub record_at : List ℕ → ℕ → List ℕ
record_at s off = part off (record_length s off) s

-- 1: fewer than 6 bytes remain; 2: a kind or length that is not due; 1: the record is not whole
unfoldable pub shape : Due → List ℕ → ℕ → List Test
shape w s off =
    refuse NotWhole off (ltb (length s) (off + 6))
    then refuse NotDue off (not (is_due w (le16 s (off + kind_at)) (le32 s off)))
    then refuse NotWhole off (ltb (length s) (off + record_length s off))

-- the tests of the record that starts at off; c is the colour of the row before
unfoldable pub record_tests : Due → List ℕ → ℕ → ℕ → List Test
record_tests w s off c = shape w s off then from off (fields (record_at s off) c)

-- of k records, the first at off
unfoldable pub records_tests : Due → ℕ → List ℕ → ℕ → ℕ → List Test
records_tests w zero s off c = []
records_tests w (suc k) s off c = record_tests w s off c then records_tests w k s (off + record_length s off) (le16 s (off + row_colour))

-- the k records themselves, and where they end
unfoldable pub records : ℕ → List ℕ → ℕ → List (List ℕ)
records zero s off = []
records (suc k) s off = record_at s off ∷ records k s (off + record_length s off)

unfoldable pub end_of : ℕ → List ℕ → ℕ → ℕ
end_of zero s off = off
end_of (suc k) s off = end_of k s (off + record_length s off)

unfoldable pub flatten : List (List ℕ) → List ℕ
flatten [] = []
flatten (r ∷ rs) = r ++ flatten rs
