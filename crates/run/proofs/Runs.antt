-- An accepted frame is laid out from its own rows and points, and what the sweeps make of it is the run of the rules. Assumes nothing.
use Rattle.std.proofs.Common.{ℕ, ◌≤◌, ◌≡◌, sym, ap, ◌∙◌, subst, false, List, [], ◌∷◌, ◌++◌, arith, length, length-append, eq-eqb, ne_eqb}
use Rattle.std.proofs.Common.{Bool, true, cond, Float, refl, Result, Ok, Err, Some, None}
use Rattle.little_endian.specs.Bytes.{le16, le32}
use Rattle.records.specs.declared.Answer.{Answer}
use Rattle.records.specs.declared.Due.TheVariants.{Point, Row}
use Rattle.records.specs.declared.Refused.{Refused}
use Rattle.records.specs.Answers.{number_of, answer_of}
use Rattle.records.proofs.Firsts.{first_passed, never_0}
use Rattle.records.specs.Records.{flatten}
use Rattle.records.proofs.ByKind.{Kind, a_scalar, a_corotational, a_neo_hookean}
use Rattle.frame.specs.Frames.{count_n, count_r, mode_of, resweeps_of, head, points, rows}
use Rattle.frame.specs.Check.{frame_tests, check_of}
use Rattle.acceptance.specs.Whole.{Good, Chain, Whole}
use Rattle.acceptance.proofs.Parsing.{good_kind}
use Rattle.acceptance.proofs.Wholes.{whole, within_range, head_length, point_length}
use Rattle.relisting.specs.Steps.{run}
use Rattle.stored.specs.Points.{Points, main_step, resweep_step}
use Rattle.stored.specs.Run.{updates, warms, warm_coefficient, least_strain, lay, swept, run_of, leaves}
use Rattle.points.specs.InFrame.{Sized}
use Rattle.row.specs.Widths.{row_length}
use Rattle.floats.proofs.Same.{Finite3}
use Rattle.points.specs.Apart.{velocity_at, Calm}
use Rattle.run.proofs.Calm.{points_finite}
use Rattle.run.proofs.Written.{row_written}
use Rattle.sweep.specs.Laid.{RowSized, RowsSized, phases, Laid, Ready, Ran}
use Rattle.sweep.specs.declared.Phases.{Phases}
use Rattle.run.specs.Start.{main_phases}

-- ---- sizes

row_sized : (c : ℕ) (b : List ℕ) → Good Row c b → RowSized b
unfolding row_length
row_sized c b g = record { size = g.size; wide = go (good_kind Row c b g); scalar = exact (good_kind Row c b g); written = row_written c b g }
  where
    go : Kind Row (le16 b 4) (le32 b 0) → row_length (le16 b 4) ≤ length b
    go (a_scalar k n) = subst (λ (m : ℕ). row_length m ≤ length b) (sym k) (omega (arith, g.size))
    go (a_corotational k n) = subst (λ (m : ℕ). row_length m ≤ length b) (sym k) (omega (arith, g.size))
    go (a_neo_hookean k n) = subst (λ (m : ℕ). row_length m ≤ length b) (sym k) (omega (arith, g.size))

    exact : Kind Row (le16 b 4) (le32 b 0) → le16 b 4 ≡ 3 → length b ≡ 182
    exact (a_scalar k n) e = omega (arith, g.size, n)
    exact (a_corotational k n) e = absurd (omega (arith, k, e))
    exact (a_neo_hookean k n) e = absurd (omega (arith, k, e))

rows_sized : (c : ℕ) (bs : List (List ℕ)) → Chain Row c bs → RowsSized bs
unfolding Chain RowsSized
rows_sized c [] g = tt
rows_sized c (b ∷ bs) g = (row_sized c b g.0, rows_sized (le16 b 6) bs g.1)

points_sized : (c : ℕ) (ps : Points) → Chain Point c ps → Sized ps
unfolding Chain Sized
points_sized c [] g = tt
points_sized c (p ∷ ps) g = (point_length c p g.0, points_sized (le16 p 6) ps g.1)

-- ---- the frame

laid_of : (s : List ℕ) → Whole s → Laid s (head s) (rows s, points s)
unfolding lay
laid_of s w = record {
  bytes = w.bytes;
  head = head_length (head s) w.good_head;
  rows = rows_sized 0 (rows s) w.good_rows;
  points = points_sized 0 (points s) w.good_points;
}

-- a phase that is on with its number is that phase
both_phases : (n : ℕ) (u w : Bool) (coeff least : Float)
    → phases n (record { update = cond u (Some least) None; warm = cond w (Some coeff) None }) ≡ main_step n u w coeff least
both_phases n true true coeff least = refl
both_phases n true false coeff least = refl
both_phases n false true coeff least = refl
both_phases n false false coeff least = refl

module _ (s : List ℕ) (o : Result Unit Refused) (e : answer_of o ≡ check_of s) where
  -- number 0 is given to accepted frames alone
  module _ {u : Unit} (z : o ≡ Ok u) where
    number : (check_of s).number ≡ 0
    number = ap (λ (x : Answer). x.number) (sym e) ∙ ap (λ (x : Result Unit Refused). (answer_of x).number) z

    frame : Whole s
    unfolding check_of
    frame = whole s (first_passed (frame_tests s) number)

    pub long : 26 ≤ length s
    long = omega (arith, ap length frame.bytes, length-append (head s) (flatten (points s) ++ flatten (rows s)), head_length (head s) frame.good_head)

    pub ready : (n r : ℕ) → n ≡ count_n s → r ≡ count_r s → Ready n r s
    ready n r en er =
        let v = within_range s frame in
        record {
          h = head s;
          x = (rows s, points s);
          laid = laid_of s frame;
          size = v.as_many_points ∙ sym en;
          count = v.as_many_rows ∙ sym er;
          few = omega (arith, v.few_points);
          few_r = omega (arith, v.few_rows);
        }

    pub calm : (n : ℕ) → n ≡ count_n s → Calm n s
    calm n en i h =
        let v = within_range s frame in
        subst (λ (l : List ℕ). Finite3 l (velocity_at i)) (sym frame.bytes)
        (points_finite 0 (points s) (head s) (flatten (rows s)) 26 i (head_length (head s) frame.good_head) frame.good_points (omega (arith, v.as_many_points, en)))

    pub run_is : (s' : List ℕ) (p : Phases) (k n r : ℕ) → p ≡ main_phases s → k ≡ resweeps_of s → n ≡ count_n s → r ≡ count_r s → Ran p k n r s s' → s' ≡ leaves s
    unfolding leaves run_of swept main_phases
    run_is s' p k n r ep ek en er ran =
        let v = within_range s frame in
        let l = ran (head s) (rows s, points s) (laid_of s frame) (v.as_many_points ∙ sym en) (v.as_many_rows ∙ sym er) in
        l.bytes
        ∙ (λ i. lay (head s) (run (phases (en i) (ep i)) (resweep_step (en i)) (ek i) (rows s) (points s)))
        ∙ ap (λ (f : List ℕ → Points → List ℕ × Points). lay (head s) (run f (resweep_step (count_n s)) (resweeps_of s) (rows s) (points s)))
        (both_phases (count_n s) (updates (mode_of s)) (warms (mode_of s)) (warm_coefficient s) (least_strain s))
        ∙ simp (eq-eqb (check_of s).number 0 number)

  pub not_run : (x : Refused) → o ≡ Err x → s ≡ leaves s
  unfolding leaves
  not_run x z =
      let n : number_of x.why ≡ (check_of s).number = ap (λ (y : Result Unit Refused). (answer_of y).number) (sym z) ∙ ap (λ (y : Answer). y.number) e in
      simp (ne_eqb (check_of s).number 0 (λ q. never_0 x.why (n ∙ q)))
