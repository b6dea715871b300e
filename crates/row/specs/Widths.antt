-- How many bytes a row's record has, by its kind: 3 scalar, 4 corotational, 5 neo-Hookean. Definitions only. Assumes nothing.
use Rattle.std.specs.Prelude.{ℕ, ◌≤◌, cond, List, eqb, length}
use Rattle.little_endian.specs.Bytes.{le16}
use Rattle.records.specs.Layout.{scalar_end, coro_end, neo_end}
use Rattle.records.specs.declared.kinds.RowKind.{RowKind}
use Rattle.records.specs.declared.kinds.RowKind.TheVariants.{Scalar, Corotational, NeoHookean}
use Rattle.floats.specs.Written.{AllWritten}

unfoldable pub row_length : ℕ → ℕ
row_length kind = cond (eqb kind 3) scalar_end (cond (eqb kind 4) coro_end neo_end)

abbrev pub width : RowKind → ℕ
width Scalar = scalar_end
width Corotational = coro_end
width NeoHookean = neo_end

-- the bytes of a row's record, whole: there is room for the fields of its kind, and its floats are as put_f32 writes them
pub record Whole (b : List ℕ) : Type 0 where
  pub wide : row_length (le16 b 4) ≤ length b
  pub written : AllWritten b
