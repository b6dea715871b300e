-- A table of worked examples, and that every row of it holds. Rows of any crate and of any type join into one table. Assumes nothing.
use Rattle.std.specs.Prelude.{◌≡◌, List, [], ◌∷◌, ◌++◌}

infix 4 ◌gives◌
-- a row: what a rule makes of an input, and what the paper says that it makes
pub data Row : Type 1 where
  ◌gives◌ : {A : Type 0} → A → A → Row

-- each row's two sides are equal
abbrev pub Holds : List Row → Type 0
Holds [] = Unit {0}
Holds ((x gives y) ∷ rows) = (x ≡ y) × Holds rows

-- two tables as one
pub joined : (s t : List Row) → Holds s → Holds t → Holds (s ++ t)
joined [] t a b = b
joined ((x gives y) ∷ s) t a b = (a.0, joined s t a.1 b)
