-- The kinds of records: the number of each, its length, and where it may stand. Assumes nothing.
use Rattle.std.specs.Prelude.{◌≡◌, ℕ, cond, eqb, Result, MatchResult}
use Rattle.records.specs.declared.Due.{Due}
use Rattle.records.specs.declared.Due.TheVariants as due
use Rattle.records.specs.declared.kinds.Kind.{Kind}
use Rattle.records.specs.declared.kinds.Kind.TheVariants.{Head, Point, Row}
use Rattle.records.specs.declared.kinds.RowKind.{RowKind}
use Rattle.records.specs.declared.kinds.RowKind.TheVariants.{Scalar, Corotational, NeoHookean}
use Rattle.records.specs.declared.kinds.UnknownKind.{UnknownKind}

-- the number by which a record tells its kind
abbrev pub number_of_kind : Kind → ℕ
number_of_kind Head = 1
number_of_kind Point = 2
number_of_kind (Row Scalar) = 3
number_of_kind (Row Corotational) = 4
number_of_kind (Row NeoHookean) = 5

-- how many bytes follow the length itself
abbrev pub length_of : Kind → ℕ
length_of Head = 22
length_of Point = 26
length_of (Row Scalar) = 178
length_of (Row Corotational) = 614
length_of (Row NeoHookean) = 674

abbrev pub due_as : Kind → Due
due_as Head = due.Head
due_as Point = due.Point
due_as (Row k) = due.Row

-- the kind with this number, or that no kind has it
abbrev pub Numbered : ℕ → Result Kind UnknownKind → Type 0
Numbered n r = MatchResult r (λ kind. number_of_kind kind ≡ n) (λ e. (e.0 ≡ n) × ((kind : Kind) → number_of_kind kind ≡ n → ⊥))

-- that of a row, by its number: what is no scalar and no corotational row is a neo-Hookean one
abbrev pub row_kind : ℕ → RowKind
row_kind n = cond (eqb n 3) Scalar (cond (eqb n 4) Corotational NeoHookean)
