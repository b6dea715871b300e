-- What the inner functions of the clash test cite: the names of a row with four places, and a mark for each point, the colour of the row
-- that named it last. Assumes nothing.
use Rattle.std.specs.Prelude.{ℕ, ◌+◌, Bool, false, cond, not, ◌&&◌, List, [], ◌∷◌, length, get_or, set, ltb, eqb, Option, Some, None}
use Rattle.std.specs.Option.{option_eq}
use Rattle.little_endian.specs.Bytes.{le16, le32}
use Rattle.records.specs.Layout.{row_colour, row_ids}
use Rattle.clash.specs.declared.Names.{Names}
use Rattle.clash.specs.Clash.{overflow, count_of, any_of}

-- the id of a place, if it is named
unfoldable pub placed : Bool → ℕ → Option ℕ
placed named id = cond named (Some id) None

unfoldable pub names_of : List ℕ → Names
names_of b = record {
  colour = le16 b row_colour;
  ids =
      placed (ltb 0 (count_of b)) (le32 b row_ids)
      ∷ placed (ltb 1 (count_of b)) (le32 b (row_ids + 4))
      ∷ placed (ltb 2 (count_of b)) (le32 b (row_ids + 8))
      ∷ placed (ltb 3 (count_of b)) (le32 b (row_ids + 12))
      ∷ [];
}

-- a place is named, and its id passes
abbrev pub named : (ℕ → Bool) → Option ℕ → Bool
named t None = false
named t (Some id) = t id

-- the row that named this point last has the colour c
unfoldable pub marked_at : List (Option ℕ) → ℕ → ℕ → Bool
marked_at marks c id = ltb id (length marks) && option_eq eqb (get_or marks id None) (Some c)

abbrev pub is_marked : List (Option ℕ) → ℕ → Option ℕ → Bool
is_marked marks c id = named (marked_at marks c) id

unfoldable pub clashing : List (Option ℕ) → Names → Bool
clashing marks q = not (eqb q.colour overflow) && any_of (is_marked marks q.colour) q.ids

unfoldable pub mark_with : List (Option ℕ) → ℕ → Option ℕ → List (Option ℕ)
mark_with marks c None = marks
mark_with marks c (Some id) = cond (ltb id (length marks)) (set marks id (Some c)) marks

-- each of the places in turn
unfoldable pub mark_all : List (Option ℕ) → ℕ → List (Option ℕ) → List (Option ℕ)
mark_all marks c [] = marks
mark_all marks c (id ∷ ids) = mark_all (mark_with marks c id) c ids

unfoldable pub mark_row : List (Option ℕ) → Names → List (Option ℕ)
mark_row marks q = cond (eqb q.colour overflow) marks (mark_all marks q.colour q.ids)
