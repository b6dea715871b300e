-- The phases of a row on bytes that may or may not be its record. Definitions only. Assumes nothing.
use Rattle.std.specs.Prelude.{ℕ, ◌+◌, ◌*◌, ◌-◌, ◌/◌, ◌%◌, Bool, true, false, cond, ◌&&◌, ◌||◌, List, eqb, leb, Float, length, Some, None}
use Rattle.loops.specs.Loops.{up_to}
use Rattle.little_endian.specs.Bytes.{le16, le32}
use Rattle.vector.specs.declared.Vec3.{Vec3}
use Rattle.vector.specs.declared.Four.{Four}
use Rattle.places.specs.Places.{Holds}
use Rattle.records.specs.Layout as at
use Rattle.records.specs.Records.{record_length}
use Rattle.row.specs.Widths.{row_length}
use Rattle.stored.specs.Phases.{update_row, warm_row, warm_loss, solve_row, solve_loss}
use Rattle.rows_ffi.specs.Mirrors.{lost_of}

-- a record, whole: its length says so, it has a row's kind, and room for the fields of that kind
unfoldable pub is_record : List ℕ → Bool
is_record s =
    cond (leb 6 (length s))
    (eqb (record_length s 0) (length s) && (eqb (le16 s at.kind_at) 3 || eqb (le16 s at.kind_at) 4 || eqb (le16 s at.kind_at) 5) && leb (row_length (le16 s at.kind_at)) (record_length s 0))
    false

-- its floats are as put_f32 writes them: of a NaN's patterns there is 0x7FC00000 alone
unfoldable pub is_written : ℕ → Bool
is_written n = leb (n % 2147483648) 2139095040 || eqb n 2143289344

unfoldable pub all_written : ℕ → List ℕ → Bool
all_written n s = up_to n (λ i t. t && is_written (le32 s (at.row_pos + 4 * i))) true

-- one row's record
unfoldable pub is_row : List ℕ → Bool
is_row s = cond (is_record s) (all_written ((length s - at.row_pos) / 4) s) false

-- what is no row's record stays
unfoldable pub updated : Float → Holds → List ℕ → List ℕ
updated least held s = cond (is_row s) (update_row least held s) s

unfoldable pub warmed : Float → List ℕ → List ℕ
warmed coeff s = cond (is_row s) (warm_row coeff s) s

unfoldable pub solved : Holds → List ℕ → List ℕ
solved vel s = cond (is_row s) (solve_row vel s) s

-- and nothing is lost

abbrev pub lost : Bool → Four Vec3 → Bool × Four Vec3
lost is loss = lost_of (cond is (Some loss) None)

unfoldable pub warm_lost : Float → List ℕ → Bool × Four Vec3
warm_lost coeff s = lost (is_row s) (warm_loss coeff s)

unfoldable pub solve_lost : Holds → List ℕ → Bool × Four Vec3
solve_lost vel s = lost (is_row s) (solve_loss vel s)
