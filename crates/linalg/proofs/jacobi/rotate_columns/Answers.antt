-- `linalg::jacobi::rotate_columns` meets its contract: two stores in one row are one store of that row. Assumes nothing.
use Rattle.std.specs.Prelude.{◌≡◌, ◌<◌, ℕ, List, [], length, set, get_or, Float}
use Rattle.std.proofs.Common.{rules, sym, get_or-set_same, set-set}
use Rattle.loops.specs.Loops.{ran_more}
use Rattle.linalg.specs.Eigen.{Rows, store}
use Rattle.linalg.proofs.jacobi.rotate_columns.Goals as goal

in_one_row : (a : Rows) (k p q : ℕ) (x y : Float) → k < length a → set a k (set (set (get_or a k []) p x) q y) ≡ store (store a k p x) k q y
in_one_row a k p q x y h =
    let r : List Float = set (get_or a k []) p x in
    let s : get_or (set a k r) k [] ≡ r = get_or-set_same a k r [] h in
    rw s (sym (set-set a k r (set r q y)))

pub loop-row-preserved : goal.loop-row-preserved
loop-row-preserved g c = (
  ran_more c.loop-row.invariant.0 c.loop-row-test.true
      (rw (c.turned.ensures.first, c.turned.ensures.second) (in_one_row c.loop-row.row-items c.loop-row.row-index g.row.P g.row.Q _ _ (search rules))),
  search rules,
)
