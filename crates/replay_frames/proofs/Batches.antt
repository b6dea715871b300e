-- What is counted of one batch of entries behind another. Assumes nothing.
use Rattle.std.specs.Prelude.{◌≡◌, ℕ, ◌+◌, ◌*◌, ◌≤◌, ◌<◌, ◌^◌, List, length, Option, None, Some, IfSome}
use Rattle.std.specs.Io.KnownBytes.{Consumes}
use Rattle.std.proofs.Common.{ap, arith, length-append, ◌∙◌}
use Rattle.replay.specs.Tallies.{plus}
use Rattle.replay.specs.declared.tally.Tally.{Tally}
use Rattle.replay_frames.specs.Entries.{Counted, none, one_right, one_wrong}

module _ {base : List ℕ} where
  few : {tried bad : ℕ} → Counted base tried bad → bad ≤ tried
  few none = omega arith
  few (one_right entry e before) = omega (arith, few before)
  few (one_wrong entry e before) = omega (arith, few before)

  both : {n b m d : ℕ} → Counted base n b → Counted base m d → Counted base (n + m) (b + d)
  both {n} {b} before none =
      let tried : n + 0 ≡ n = omega arith in
      let bad : b + 0 ≡ b = omega arith in
      rw (tried, bad) before
  both {n} {b} before (one_right {tried = m} {bad = d} entry e more) =
      let tried : n + (m + 1) ≡ n + m + 1 = omega arith in
      rw tried (one_right entry e (both before more))
  both {n} {b} before (one_wrong {tried = m} {bad = d} entry e more) =
      let tried : n + (m + 1) ≡ n + m + 1 = omega arith in
      let bad : b + (d + 1) ≡ b + d + 1 = omega arith in
      rw (tried, bad) (one_wrong entry e (both before more))

  pub one_batch : (t r u : Tally) → Counted base t.records t.differ → Counted base r.records r.differ → t.records + r.records < 2 ^ 64 → u ≡ plus t r
      → Counted base u.records u.differ × (u.records ≡ t.records + r.records)
  one_batch t r u before more small e =
      let tried : u.records ≡ t.records + r.records = ap (λ x. x.records) e ∙ omega (arith, small) in
      let bad : u.differ ≡ t.differ + r.differ = ap (λ x. x.differ) e ∙ omega (arith, small, few before, few more) in
      (rw (tried, bad) (both before more), tried)

-- so many entries at least were in the bytes that were consumed
pub there : (a b : Option (List ℕ)) (bs : List ℕ) (n : ℕ) → Consumes a b bs → 22 * n ≤ length bs → IfSome a (λ xs. 22 * n ≤ length xs)
there None b bs n p h = tt
there (Some xs) None bs n p h = absurd p
there (Some xs) (Some ys) bs n p h = omega (arith, h, length-append bs ys, ap length p)
