-- THE TWO STATEMENTS OF A WHOLE RUN, PROVED. Each row is updated at most once, in the main sweep and from the bytes that check accepted, whose floats are finite: that is all that the law of an update asks for. Assumes nothing.
use Rattle.std.proofs.Common.{ℕ, zero, suc, ◌+◌, ◌*◌, ◌<◌, ◌≡◌, sym, ap, ◌∙◌, subst, List, [], ◌∷◌, arith, not-suc-le-zero}
use Rattle.std.proofs.Common.{le_of_suc-le-suc, length, get_or, take, drop}
use Rattle.little_endian.specs.Bytes.{le16}
use Rattle.little_endian.proofs.Parts.{Bytes}
use Rattle.relisting.specs.Steps.{sweep}
use Rattle.relisting.specs.Sweep.{sweep_row}
use Rattle.records.specs.declared.Due.TheVariants.{Row}
use Rattle.records.specs.Layout as at
use Rattle.records.specs.Answers.{accepted}
use Rattle.records.specs.Records.{record_length, records}
use Rattle.frame.specs.Frames.{count_n, count_r, mode_of, resweeps_of, rows_at, points, rows}
use Rattle.frame.specs.Check.{check_of}
use Rattle.acceptance.specs.Whole.{row, Good, Chain}
use Rattle.acceptance.proofs.Wholes.{accepted_whole}
use Rattle.stored.specs.Points.{Points, main_step}
use Rattle.stored.specs.Run.{updates, warms, warm_coefficient, least_strain, swept, leaves}
use Rattle.demand.proofs.Laid.{ran}
use Rattle.unassigned.specs.Assigned.{Outside}
use Rattle.unassigned.specs.Stays.{assigned_in_main, met, assigned_in_run, KeepTheirBytes, OldPosStays}
use Rattle.unassigned.proofs.Sweeps.{solve_by_kind, solve_outside, main_leaves, main_kind, swept_again}
use Rattle.unassigned.proofs.Skipped.{main_out}

-- ---- the rows of a frame of bytes are bytes

bytes_nil : Bytes []
bytes_nil k = omega arith

bytes_take : (n : ℕ) (s : List ℕ) → Bytes s → Bytes (take n s)
bytes_take zero s y k = bytes_nil k
bytes_take (suc n) [] y k = bytes_nil k
bytes_take (suc n) (a ∷ s) y zero = y zero
bytes_take (suc n) (a ∷ s) y (suc k) = bytes_take n s (λ j. y (suc j)) k

bytes_drop : (n : ℕ) (s : List ℕ) → Bytes s → Bytes (drop n s)
bytes_drop zero s y = y
bytes_drop (suc n) [] y = bytes_nil
bytes_drop (suc n) (a ∷ s) y = bytes_drop n s (λ j. y (suc j))

bytes_records : (s : List ℕ) → Bytes s → (m off n : ℕ) → Bytes (row (records m s off) n)
unfolding records
bytes_records s y zero off n = bytes_nil
bytes_records s y (suc m) off zero = bytes_take (record_length s off) (drop off s) (bytes_drop off s y)
bytes_records s y (suc m) off (suc n) = bytes_records s y m (off + record_length s off) n

-- ---- and each of an accepted frame is good, after the colour of the one before it

chain_good : (c : ℕ) (bs : List (List ℕ)) → Chain Row c bs → (n : ℕ) → n < length bs → (d : ℕ) × Good Row d (row bs n)
unfolding Chain
chain_good c [] g n h = absurd (not-suc-le-zero h)
chain_good c (b ∷ bs) g zero h = (c, g.0)
chain_good c (b ∷ bs) g (suc n) h = chain_good (le16 b at.row_colour) bs g.1 n (le_of_suc-le-suc h)

-- ---- a frame's row n

module _ (s : List ℕ) (y : Bytes s) (ok : check_of s ≡ accepted) (n : ℕ) (h : n < length (rows s)) where
  abbrev main : List ℕ → Points → List ℕ × Points
  main = main_step (count_n s) (updates (mode_of s)) (warms (mode_of s)) (warm_coefficient s) (least_strain s)

  -- the row as it was, and after the main sweep
  abbrev b0 : List ℕ
  b0 = row (rows s) n

  abbrev b1 : List ℕ
  b1 = row (sweep main (rows s) (points s)).0 n

  good : (d : ℕ) × Good Row d b0
  good = chain_good 0 (rows s) (accepted_whole s ok).good_rows n h

  bytes : Bytes b0
  bytes = bytes_records s y (count_r s) (rows_at s) n

  stepped : b1 ≡ (main b0 (met s n)).0
  unfolding met
  stepped = sweep_row main [] (rows s) (points s) n h

  module _ (k : ℕ) (o : Outside k (assigned_in_run s n)) where
    in_main : Outside k (assigned_in_main (updates (mode_of s)) (warms (mode_of s)) b0 (met s n))
    unfolding assigned_in_run
    in_main = o

    main_stays : get_or b1 k 0 ≡ get_or b0 k 0
    main_stays =
        ap (λ (l : List ℕ). get_or l k 0) stepped
        ∙ main_leaves (count_n s) k good.0 b0 bytes good.1 (updates (mode_of s)) (warms (mode_of s)) (warm_coefficient s) (least_strain s) (met s n) in_main

    same_kind : le16 b1 4 ≡ le16 b0 4
    same_kind =
        ap (λ (l : List ℕ). le16 l 4) stepped
        ∙ main_kind (count_n s) k good.0 b0 bytes good.1 (updates (mode_of s)) (warms (mode_of s)) (warm_coefficient s) (least_strain s) (met s n)

    pub run_leaves : get_or (row (rows (leaves s)) n) k 0 ≡ get_or b0 k 0
    unfolding swept
    run_leaves =
        ap (λ (l : List (List ℕ)). get_or (row l n) k 0) (ran s ok).its_rows
        ∙ (swept_again (count_n s) k (resweeps_of s) (sweep main (rows s) (points s)) n).stays (subst (Outside k) (sym (solve_by_kind b1 b0 same_kind)) (solve_outside k _ _ b0 (met s n) in_main))
        ∙ main_stays

-- FIELDS THAT THE RUST DOES NOT ASSIGN KEEP THEIR BYTES
pub keep_their_bytes : KeepTheirBytes
keep_their_bytes s y ok n h k o = run_leaves s y ok n h k o

-- ID 0xFFFFFFFF IS SKIPPED, AND THE ROW'S OLD `pos` STAYS
pub old_pos_stays : OldPosStays
unfolding assigned_in_run
old_pos_stays s y ok n h p four skipped j few =
    run_leaves s y ok n h (at.row_pos + 12 * p + j) (main_out p j four few (row (rows s) n) (met s n) skipped (updates (mode_of s)) (warms (mode_of s)))
