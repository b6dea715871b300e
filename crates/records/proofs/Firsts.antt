-- Laws of the first refusal in a list of tests. Assumes nothing.
use Rattle.std.proofs.Common.{ℕ, ◌+◌, ◌≡◌, refl, sym, ap, ◌∙◌, Bool, true, false, cond, List, [], ◌∷◌, ◌++◌, arith, Result, Ok, Err}
use Rattle.records.specs.declared.Answer.{Answer}
use Rattle.records.specs.declared.Refusal.{Refusal}
use Rattle.records.specs.declared.Refusal.TheVariants.{NotWhole, NotDue, TooMany, BadCode, NotFinite, Disordered, ColourFalls, ExtraBytes}
use Rattle.records.specs.declared.Refusal.TheVariants.{Clash}
use Rattle.records.specs.declared.Refused.{Refused}
use Rattle.records.specs.Answers.{number_of, Test, refused, accepted, first_of, from, Passed, outcome, outcome_from, answer_of}

abbrev pub Zero : Answer → Type 0
Zero a = a.number ≡ 0

pub zero_of : {a b : Answer} → a ≡ b → Zero a → Zero b
zero_of e z = ap (λ (x : Answer). x.number) (sym e) ∙ z

pub never_0 : (r : Refusal) → number_of r ≡ 0 → ⊥
never_0 NotWhole e = omega arith
never_0 NotDue e = omega arith
never_0 TooMany e = omega arith
never_0 BadCode e = omega arith
never_0 NotFinite e = omega arith
never_0 Disordered e = omega arith
never_0 ColourFalls e = omega arith
never_0 ExtraBytes e = omega arith
never_0 Clash e = omega arith

-- ---- two lists, one after the other

-- the second outcome where the first is Ok
infixr 20 ◌and_then◌
abbrev pub ◌and_then◌ : Result Unit Refused → Result Unit Refused → Result Unit Refused
Ok u and_then r = r
Err e and_then r = Err e

pub outcome_append : (ts us : List Test) → outcome (ts ++ us) ≡ (outcome ts and_then outcome us)
unfolding outcome
outcome_append [] us = refl
outcome_append (t ∷ ts) us = go t.fails (outcome_append ts us)
  where
    go : (b : Bool) → outcome (ts ++ us) ≡ (outcome ts and_then outcome us)
        → cond b (Err (record { why = t.refusal; place = t.place })) (outcome (ts ++ us)) ≡ (cond b (Err (record { why = t.refusal; place = t.place })) (outcome ts) and_then outcome us)
    go true ih = refl
    go false ih = ih

pub from_append : (off : ℕ) (ts us : List Test) → from off (ts ++ us) ≡ from off ts ++ from off us
unfolding from
from_append off [] us = refl
from_append off (t ∷ ts) us = ap (record { fails = t.fails; refusal = t.refusal; place = off + t.place } ∷◌) (from_append off ts us)

pub outcome_from_append : (off : ℕ) (ts us : List Test) → outcome_from off (ts ++ us) ≡ (outcome_from off ts and_then outcome_from off us)
outcome_from_append off ts us = ap outcome (from_append off ts us) ∙ outcome_append (from off ts) (from off us)

-- ---- Ok exactly where all pass, and the number and place are those of the first that fails

pub answer_outcome : (ts : List Test) → answer_of (outcome ts) ≡ first_of ts
unfolding outcome first_of
answer_outcome [] = refl
answer_outcome (t ∷ ts) = go t.fails (answer_outcome ts)
  where
    go : (b : Bool) → answer_of (outcome ts) ≡ first_of ts
        → answer_of (cond b (Err (record { why = t.refusal; place = t.place })) (outcome ts)) ≡ cond b (refused (number_of t.refusal) t.place) (first_of ts)
    go true ih = refl
    go false ih = ih

pub passed_outcome : (ts : List Test) → Passed ts → outcome ts ≡ Ok tt
unfolding outcome Passed
passed_outcome [] p = refl
passed_outcome (t ∷ ts) p = simp p.0 (passed_outcome ts p.1)

pub outcome_passed : (ts : List Test) → outcome ts ≡ Ok tt → Passed ts
unfolding outcome Passed
outcome_passed [] e = tt
outcome_passed (t ∷ ts) e = go t.fails refl e (outcome_passed ts)
  where
    go : (b : Bool) → t.fails ≡ b → cond b (Err (record { why = t.refusal; place = t.place })) (outcome ts) ≡ Ok tt → (outcome ts ≡ Ok tt → Passed ts) → (t.fails ≡ false) × Passed ts
    go true e z ih = cc
    go false e z ih = (e, ih z)

-- ---- accepted exactly where all pass

pub passed_first : (ts : List Test) → Passed ts → first_of ts ≡ accepted
unfolding first_of Passed
passed_first [] p = refl
passed_first (t ∷ ts) p = simp p.0 (passed_first ts p.1)

pub first_passed : (ts : List Test) → Zero (first_of ts) → Passed ts
unfolding first_of Passed
first_passed [] z = tt
first_passed (t ∷ ts) z = go t.fails refl z (first_passed ts)
  where
    go : (b : Bool) → t.fails ≡ b → Zero (cond b (refused (number_of t.refusal) t.place) (first_of ts)) → (Zero (first_of ts) → Passed ts) → (t.fails ≡ false) × Passed ts
    go true e z ih = absurd (never_0 t.refusal z)
    go false e z ih = (e, ih z)

pub passed_join : (ts us : List Test) → Passed ts → Passed us → Passed (ts ++ us)
unfolding Passed
passed_join [] us p q = q
passed_join (t ∷ ts) us p q = (p.0, passed_join ts us p.1 q)

pub passed_split : (ts us : List Test) → Passed (ts ++ us) → Passed ts × Passed us
unfolding Passed
passed_split [] us p = (tt, p)
passed_split (t ∷ ts) us p = let x = passed_split ts us p.1 in ((p.0, x.0), x.1)

-- wherever the record starts
pub passed_from : (off : ℕ) (ts : List Test) → Passed ts → Passed (from off ts)
unfolding Passed from
passed_from off [] p = tt
passed_from off (t ∷ ts) p = (p.0, passed_from off ts p.1)

pub passed_back : (off : ℕ) (ts : List Test) → Passed (from off ts) → Passed ts
unfolding Passed from
passed_back off [] p = tt
passed_back off (t ∷ ts) p = (p.0, passed_back off ts p.1)
