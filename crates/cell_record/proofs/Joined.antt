-- Six columns of a 6x6 matrix that stand one after the other in a record are its 36 floats. Assumes nothing.
use Rattle.std.proofs.Common.{◌≡◌, ℕ, ◌+◌, List, [], ◌∷◌, add_assoc}
use Rattle.cell.specs.Columns.{from_columns}
use Rattle.floats.specs.Fields.{floats_at}

pub joined :
    (b : List ℕ) (k : ℕ)
    → from_columns
    (floats_at 6 b k
    ∷ floats_at 6 b (k + 24)
    ∷ floats_at 6 b (k + 48)
    ∷ floats_at 6 b (k + 72)
    ∷ floats_at 6 b (k + 96)
    ∷ floats_at 6 b (k + 120)
    ∷ [])
    ≡ floats_at 36 b k
unfolding from_columns floats_at
joined b k = simp add_assoc
