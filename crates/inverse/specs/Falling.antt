-- The loops of the backward solution, by falling index: where index k - 1 comes next, 6 - k turns are done. Assumes nothing.
use Rattle.std.specs.Prelude.{ℕ, ◌+◌, ◌-◌, ◌<◌, ◌≤◌, ◌≡◌, refl, List, set, Float}
use Rattle.std.proofs.Common.{arith}
use Rattle.loops.specs.Loops.{Ran, ran_none, ran_more, ran_all}
use Rattle.real.specs.Float.{◌⊖◌, ◌⊗◌, at}
use Rattle.strain.specs.Matrix.{entry}
use Rattle.inverse.specs.Inverse.{backward_turn, backward_at, backward_step}

pub terms_more : (m x : List Float) (i k : ℕ) {a t : Float} → Ran (5 - i) (backward_turn m x i) a (6 - k) t → i + 1 < k → k ≤ 6
    → Ran (5 - i) (backward_turn m x i) a (6 - (k - 1)) (t ⊖ entry m i (k - 1) ⊗ at x (k - 1))
terms_more m x i k {a} {t} w h b =
    let z : 5 - (6 - k) ≡ k - 1 = omega arith in
    let n : 6 - (k - 1) ≡ 6 - k + 1 = omega arith in
    rw n (ran_more w (omega arith) (rw z refl))

pub parts_more : (m : List Float) (k : ℕ) {x y : List Float} {v : Float} → Ran 6 (backward_step m) x (6 - k) y → 0 < k → k ≤ 6
    → v ≡ backward_at m y (k - 1) → Ran 6 (backward_step m) x (6 - (k - 1)) (set y (k - 1) v)
parts_more m k {x} {y} {v} w h b e =
    let z : 5 - (6 - k) ≡ k - 1 = omega arith in
    let n : 6 - (k - 1) ≡ 6 - k + 1 = omega arith in
    rw n (ran_more w (omega arith) (rw (z, e) refl))

-- what the goals of the two loops are proved by
pub ruleset terms = (ran_none, terms_more, ran_all)

pub ruleset parts = (ran_none, parts_more, ran_all)
