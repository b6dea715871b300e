-- What the code returns for one row. Assumes nothing.
use Rattle.std.proofs.Common.{ℕ, ◌+◌, ◌≤◌, ◌<◌, ◌≡◌, refl, sym, ap, ◌∙◌, Bool, ◌||◌, List, [], ◌∷◌, length, get_or, drop, drop-cons}
use Rattle.std.proofs.Common.{add-one, ne_eqb, Option, None}
use Rattle.std.proofs.lemmas.List.{drop_all}
use Rattle.std.specs.List.{list_any}
use Rattle.clash.specs.declared.Names.{Names}
use Rattle.clash.specs.Clash.{any_of}
use Rattle.clash.specs.Marks.{is_marked, clashing, mark_with, mark_all, mark_row}

any_is : {A : Type 0} (t : A → Bool) (l : List A) → list_any t l ≡ any_of t l
unfolding any_of
any_is t [] = refl
any_is t (x ∷ l) = ap (λ (b : Bool). t x || b) (any_is t l)

pub row_clashing : (ms : List (Option ℕ)) (q : Names) {r : Bool} → (q.colour ≡ 65535 → ⊥) → r ≡ list_any (is_marked ms q.colour) q.ids → r ≡ clashing ms q
unfolding clashing
row_clashing ms q e h = simp (ne_eqb q.colour 65535 e) (h ∙ any_is (is_marked ms q.colour) q.ids)

-- after i of the places: what is left to mark
pub record Marking (c i : ℕ) (ids old new : List (Option ℕ)) : Type 0 where
  pub left : mark_all new c (drop i ids) ≡ mark_all old c ids

pub none_yet : (c : ℕ) (ids old : List (Option ℕ)) → Marking c 0 ids old old
none_yet c ids old = record { left = refl }

pub one_more : {c i : ℕ} {ids old ms new : List (Option ℕ)} → Marking c i ids old ms → i < length ids → new ≡ mark_with ms c (get_or ids i None) → Marking c (i + 1) ids old new
unfolding mark_all
one_more {c} {i} {ids} {old} {ms} {new} w h e =
    let d = drop-cons ids i None h in
    let l : mark_all ms c (get_or ids i None ∷ drop (i + 1) ids) ≡ mark_all old c ids = rw (add-one, ← d) w.left in
    record { left = ap (λ (x : List (Option ℕ)). mark_all x c (drop (i + 1) ids)) e ∙ l }

pub all_marked : (q : Names) {i : ℕ} {old ms : List (Option ℕ)} → (q.colour ≡ 65535 → ⊥) → Marking q.colour i q.ids old ms → length q.ids ≤ i → ms ≡ mark_row old q
unfolding mark_row mark_all
all_marked q {i} {old} {ms} e w h =
    let l : mark_all ms q.colour [] ≡ mark_all old q.colour q.ids = rw (drop_all i q.ids h) at w.left in
    l ∙ sym (simp (ne_eqb q.colour 65535 e) refl)
