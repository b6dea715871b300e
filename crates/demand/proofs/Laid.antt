-- What a run leaves of an accepted frame, parted again: the head as it was, and the points and rows of the sweeps. Assumes nothing.
use Rattle.std.proofs.Common.{ℕ, ◌+◌, ◌≤◌, ◌≡◌, refl, sym, ap, ◌∙◌, subst, cond, List, [], ◌∷◌, ◌++◌, append_assoc, append-nil, arith, eqb}
use Rattle.std.proofs.Common.{length, length-append, take_at}
use Rattle.little_endian.specs.Bytes.{le16, le32}
use Rattle.little_endian.proofs.Parts.{le16_part, le32_part}
use Rattle.records.specs.declared.Answer.{Answer}
use Rattle.records.specs.declared.Due.TheVariants.{Point, Row}
use Rattle.records.specs.Answers.{accepted}
use Rattle.records.specs.Records.{records, end_of, flatten}
use Rattle.frame.specs.Frames.{count_n, count_r, mode_of, resweeps_of, rows_at, head, points, rows}
use Rattle.frame.specs.Check.{check_of}
use Rattle.acceptance.specs.Whole.{Whole}
use Rattle.acceptance.proofs.Parsing.{AllFit, parted, chain_fits, as_many}
use Rattle.acceptance.proofs.Wholes.{accepted_whole, head_length}
use Rattle.relisting.specs.Steps.{run}
use Rattle.stored.specs.Run.{updates, warms, warm_coefficient, least_strain, lay, swept, run_of, leaves}
use Rattle.stored.specs.Points.{main_step, resweep_step}
use Rattle.stored.specs.Sizes.{Same, alike_length, same_length, main_steady, resweep_steady, run_rows, run_points}
use Rattle.demand.specs.Demand3.{Left}

-- ---- the numbers of a head

module _ (s t : List ℕ) (e : head s ≡ head t) where
  pub heads_32 : (k : ℕ) → k + 4 ≤ 26 → le32 s k ≡ le32 t k
  heads_32 k h = sym (in_head s) ∙ ap (λ (l : List ℕ). le32 l k) e ∙ in_head t
    where
      in_head : (s : List ℕ) → le32 (head s) k ≡ le32 s k
      in_head s = le32_part s 0 26 k h ∙ ap (le32 s) (omega arith)

  pub heads_16 : (k : ℕ) → k + 2 ≤ 26 → le16 s k ≡ le16 t k
  heads_16 k h = sym (in_head s) ∙ ap (λ (l : List ℕ). le16 l k) e ∙ in_head t
    where
      in_head : (s : List ℕ) → le16 (head s) k ≡ le16 s k
      in_head s = le16_part s 0 26 k h ∙ ap (le16 s) (omega arith)

-- ---- a frame that is laid of parts

pub same_fits : (bs cs : List (List ℕ)) → Same bs cs → AllFit cs → AllFit bs
unfolding Same AllFit
same_fits [] [] x g = tt
same_fits [] (c ∷ cs) x g = absurd x
same_fits (b ∷ bs) [] x g = absurd x
same_fits (b ∷ bs) (c ∷ cs) x g = (omega (arith, x.0.size, alike_length b c x.0, g.0), same_fits bs cs x.1 g.1)

module _ (h : List ℕ) (x : List (List ℕ) × List (List ℕ)) (l : length h ≡ 26) (fit_points : AllFit x.1) (fit_rows : AllFit x.0) where
  lay_head : head (lay h x) ≡ h
  unfolding lay
  lay_head = take_at h (flatten x.1 ++ flatten x.0) 26 l

  lay_points : records (length x.1) (lay h x) 26 ≡ x.1
  unfolding lay
  lay_points = (parted x.1 h (flatten x.0) (lay h x) 26 refl l fit_points).same

  lay_end : end_of (length x.1) (lay h x) 26 ≡ 26 + length (flatten x.1)
  unfolding lay
  lay_end = (parted x.1 h (flatten x.0) (lay h x) 26 refl l fit_points).end

  lay_rows : records (length x.0) (lay h x) (26 + length (flatten x.1)) ≡ x.0
  unfolding lay
  lay_rows = (parted x.0 (h ++ flatten x.1) [] (lay h x) (26 + length (flatten x.1))
      (sym (append_assoc h (flatten x.1) (flatten x.0)) ∙ ap ((h ++ flatten x.1) ++◌) (sym (append-nil (flatten x.0))))
      (length-append h (flatten x.1) ∙ omega (arith, l)) fit_rows).same

-- ---- the run

-- the sweeps that s asks for, over any rows and points
abbrev pub swept_as : List ℕ → List (List ℕ) → List (List ℕ) → List (List ℕ) × List (List ℕ)
swept_as s bs ps =
    run (main_step (count_n s) (updates (mode_of s)) (warms (mode_of s)) (warm_coefficient s) (least_strain s)) (resweep_step (count_n s)) (resweeps_of s) bs ps

pub swept_as_lem : (s : List ℕ) → swept s ≡ swept_as s (rows s) (points s)
unfolding swept
swept_as_lem s = refl

pub rows_kept : (s : List ℕ) → Same (swept s).0 (rows s)
unfolding swept
rows_kept s = run_rows _ _ (main_steady (count_n s) (updates (mode_of s)) (warms (mode_of s)) (warm_coefficient s) (least_strain s)) (resweep_steady (count_n s)) (resweeps_of s) (rows s) (points s)

pub points_kept : (s : List ℕ) → Same (swept s).1 (points s)
unfolding swept
points_kept s = run_points _ _ (main_steady (count_n s) (updates (mode_of s)) (warms (mode_of s)) (warm_coefficient s) (least_strain s)) (resweep_steady (count_n s)) (resweeps_of s) (rows s) (points s)

laid : (s : List ℕ) → run_of s ≡ head s ++ (flatten (swept s).1 ++ flatten (swept s).0)
unfolding run_of lay
laid s = refl

pub leaves_run : (s : List ℕ) → check_of s ≡ accepted → leaves s ≡ run_of s
unfolding leaves
leaves_run s ok = ap (λ (a : Answer). cond (eqb a.number 0) (run_of s) s) ok

module _ (A : List ℕ) (w : Whole A) where
  long : length (head A) ≡ 26
  long = head_length (head A) w.good_head

  fit_points : AllFit (swept A).1
  fit_points = same_fits (swept A).1 (points A) (points_kept A) (chain_fits Point 0 (points A) w.good_points)

  fit_rows : AllFit (swept A).0
  fit_rows = same_fits (swept A).0 (rows A) (rows_kept A) (chain_fits Row 0 (rows A) w.good_rows)

  pub ran_head : head (run_of A) ≡ head A
  unfolding run_of
  ran_head = lay_head (head A) (swept A) long fit_points fit_rows

  many_points : count_n (run_of A) ≡ length (swept A).1
  many_points = heads_32 (run_of A) A ran_head 6 (omega arith) ∙ sym (same_length (swept A).1 (points A) (points_kept A) ∙ as_many (count_n A) A 26)

  many_rows : count_r (run_of A) ≡ length (swept A).0
  many_rows = heads_32 (run_of A) A ran_head 10 (omega arith) ∙ sym (same_length (swept A).0 (rows A) (rows_kept A) ∙ as_many (count_r A) A (rows_at A))

  pub ran_points : points (run_of A) ≡ (swept A).1
  unfolding run_of
  ran_points = ap (λ (k : ℕ). records k (run_of A) 26) many_points ∙ lay_points (head A) (swept A) long fit_points fit_rows

  ran_at : rows_at (run_of A) ≡ 26 + length (flatten (swept A).1)
  unfolding run_of
  ran_at = ap (λ (k : ℕ). end_of k (run_of A) 26) many_points ∙ lay_end (head A) (swept A) long fit_points fit_rows

  pub ran_rows : rows (run_of A) ≡ (swept A).0
  unfolding run_of
  ran_rows = (λ i. records (many_rows i) (run_of A) (ran_at i)) ∙ lay_rows (head A) (swept A) long fit_points fit_rows

-- THE PARTS OF WHAT A RUN LEAVES
pub ran : (A : List ℕ) → check_of A ≡ accepted → Left A
ran A ok = record {
  bytes = e ∙ bytes ∙ λ i. head (sym e i) ++ (flatten (points (sym e i)) ++ flatten (rows (sym e i)));
  own_head = ap head e ∙ ran_head A w;
  its_points = ap points e ∙ ran_points A w;
  its_rows = ap rows e ∙ ran_rows A w;
  same_points = subst (λ (l : List (List ℕ)). Same l (points A)) (sym (ap points e ∙ ran_points A w)) (points_kept A);
  same_rows = subst (λ (l : List (List ℕ)). Same l (rows A)) (sym (ap rows e ∙ ran_rows A w)) (rows_kept A);
}
  where
    w : Whole A
    w = accepted_whole A ok

    e : leaves A ≡ run_of A
    e = leaves_run A ok

    bytes : run_of A ≡ head (run_of A) ++ (flatten (points (run_of A)) ++ flatten (rows (run_of A)))
    bytes = laid A ∙ λ i. sym (ran_head A w) i ++ (flatten (sym (ran_points A w) i) ++ flatten (sym (ran_rows A w) i))
