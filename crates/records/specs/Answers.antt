-- What check answers: a number and a place, by the first of a list of tests that fails. Assumes nothing.
use Rattle.std.specs.Prelude.{ℕ, ◌+◌, ◌≡◌, Bool, false, cond, List, [], ◌∷◌, ◌++◌, Result, Ok, Err}
use Rattle.records.specs.declared.Answer.{Answer}
use Rattle.records.specs.declared.Refusal.{Refusal}
use Rattle.records.specs.declared.Refusal.TheVariants.{NotWhole, NotDue, TooMany, BadCode, NotFinite, Disordered, ColourFalls, ExtraBytes}
use Rattle.records.specs.declared.Refusal.TheVariants.{Clash}
use Rattle.records.specs.declared.Refused.{Refused}

-- a refusal's number in document 01's table
abbrev pub number_of : Refusal → ℕ
number_of NotWhole = 1
number_of NotDue = 2
number_of TooMany = 3
number_of BadCode = 4
number_of NotFinite = 5
number_of Disordered = 6
number_of ColourFalls = 7
number_of ExtraBytes = 8
number_of Clash = 9

abbrev pub refused : ℕ → ℕ → Answer
refused n p = record { number = n; place = p }

abbrev pub accepted : Answer
accepted = refused 0 0

-- a test: where it fails, the frame is refused so, at that place
pub record Test : Type 0 where
  pub fails : Bool
  pub refusal : Refusal
  pub place : ℕ

-- one test, as a list
abbrev pub refuse : Refusal → ℕ → Bool → List Test
refuse r p b = record { fails = b; refusal = r; place = p } ∷ []

-- one list of tests, and then another
infixr 20 ◌then◌
abbrev pub ◌then◌ : List Test → List Test → List Test
ts then us = ts ++ us

-- THE ANSWER: that of the first test that fails
unfoldable pub first_of : List Test → Answer
first_of [] = accepted
first_of (t ∷ ts) = cond t.fails (refused (number_of t.refusal) t.place) (first_of ts)

-- tests whose places count from a record's start, in a frame where that record starts at off
unfoldable pub from : ℕ → List Test → List Test
from off [] = []
from off (t ∷ ts) = record { fails = t.fails; refusal = t.refusal; place = off + t.place } ∷ from off ts

abbrev pub first_from : ℕ → List Test → Answer
first_from off ts = first_of (from off ts)

-- none of the tests fails
unfoldable pub Passed : List Test → Type 0
Passed [] = Unit
Passed (t ∷ ts) = (t.fails ≡ false) × Passed ts

-- ---- as the code has it: Ok, or why and where

unfoldable pub outcome : List Test → Result Unit Refused
outcome [] = Ok tt
outcome (t ∷ ts) = cond t.fails (Err (record { why = t.refusal; place = t.place })) (outcome ts)

abbrev pub outcome_from : ℕ → List Test → Result Unit Refused
outcome_from off ts = outcome (from off ts)

-- its number and place
abbrev pub answer_of : Result Unit Refused → Answer
answer_of (Ok u) = accepted
answer_of (Err e) = refused (number_of e.why) e.place
