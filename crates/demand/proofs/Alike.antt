-- DEMAND 3: an accepted frame and a relisting of it are run alike. Assumes nothing.
use Rattle.std.proofs.Common.{ℕ, ◌<◌, ◌≡◌, refl, sym, ap, ◌∙◌, List, [], arith, length}
use Rattle.std.specs.Float.Ieee.{binary32, of_bits}
use Rattle.std.proofs.Math.ListN.{get_elem?}
use Rattle.little_endian.specs.Bytes.{le32}
use Rattle.relisting.specs.Build.{points_equal}
use Rattle.relisting.specs.Steps.{run}
use Rattle.relisting.proofs.Relist.{relisted_run}
use Rattle.records.specs.Answers.{accepted}
use Rattle.clash.specs.Clash.{overflow}
use Rattle.frame.specs.Frames.{count_n, mode_of, resweeps_of, head, points, rows}
use Rattle.frame.specs.Check.{check_of}
use Rattle.acceptance.specs.Whole.{row, Whole}
use Rattle.acceptance.proofs.Wholes.{accepted_whole, within_range}
use Rattle.stored.specs.Run.{updates, warms, warm_coefficient, least_strain, swept}
use Rattle.stored.specs.Points.{main_step, resweep_step}
use Rattle.stored.specs.Local.{Sheet, main_local, resweep_local}
use Rattle.demand.specs.Relisted.{Relisting}
use Rattle.demand.specs.Demand3.{Left, RunsAlike, Demand3}
use Rattle.demand.proofs.Laid.{heads_16, heads_32, swept_as, swept_as_lem, ran}
use Rattle.demand.proofs.Relistings.{head_b, points_same, rows_same, relisting_accepted}
use Rattle.demand.proofs.Keys.{colour, to_accepted, to_relisted}

-- frames with the same head sweep alike
sweeps_as : (A B : List ℕ) → head B ≡ head A → (bs ps : List (List ℕ)) → swept_as B bs ps ≡ swept_as A bs ps
sweeps_as A B e bs ps = λ i.
    run (main_step (n i) (updates (m i)) (warms (m i)) (of_bits binary32 (c i)) (of_bits binary32 (l i))) (resweep_step (n i)) (k i) bs ps
  where
    n : count_n B ≡ count_n A
    n = heads_32 B A e 6 (omega arith)

    m : mode_of B ≡ mode_of A
    m = heads_16 B A e 14 (omega arith)

    k : resweeps_of B ≡ resweeps_of A
    k = heads_16 B A e 16 (omega arith)

    c : le32 B 18 ≡ le32 A 18
    c = heads_32 B A e 18 (omega arith)

    l : le32 B 22 ≡ le32 A 22
    l = heads_32 B A e 22 (omega arith)

module _ (A B : List ℕ) (bs : List (List ℕ)) (σ τ : ℕ → ℕ) (ok : check_of A ≡ accepted) (R : Relisting A B bs σ τ) where
  w : Whole A
  w = accepted_whole A ok

  ok_b : check_of B ≡ accepted
  ok_b = relisting_accepted A B bs σ τ ok R

  swept_b : swept B ≡ swept_as A bs (points A)
  swept_b = swept_as_lem B ∙ sweeps_as A B (head_b A B bs σ τ w R) (rows B) (points B) ∙ λ i. swept_as A (rows_same A B bs σ τ w R i) (points_same A B bs σ τ w R i)

  ends : ((p : ℕ) → get_elem? (swept_as A (rows A) (points A)).1 p ≡ get_elem? (swept_as A bs (points A)).1 p)
      × ((n : ℕ) → n < length (rows A) → row (swept_as A (rows A) (points A)).0 n ≡ row (swept_as A bs (points A)).0 (σ n))
  ends = relisted_run (Sheet (count_n A)) [] colour overflow _ _
      (main_local (count_n A) (updates (mode_of A)) (warms (mode_of A)) (warm_coefficient A) (least_strain A)) (resweep_local (count_n A))
      (resweeps_of A) σ τ (rows A) bs (points A)
      (to_accepted (count_n A) (within_range A w).few_points (rows A) w.good_rows w.free) (to_relisted (count_n A) A B bs σ τ R)

  alike : RunsAlike A B σ
  alike = record {
    accepted = ok_b;
    same_answer = ok ∙ sym ok_b;
    same_head = ran_a.own_head ∙ sym (head_b A B bs σ τ w R) ∙ sym ran_b.own_head;
    same_points = ran_a.its_points ∙ ap (λ x. x.1) (swept_as_lem A) ∙ points_equal _ _ ends.0 ∙ sym (ran_b.its_points ∙ ap (λ x. x.1) swept_b);
    same_rows = λ n h.
        ap (λ (l : List (List ℕ)). row l n) (ran_a.its_rows ∙ ap (λ x. x.0) (swept_as_lem A)) ∙ ends.1 n h
        ∙ sym (ap (λ (l : List (List ℕ)). row l (σ n)) (ran_b.its_rows ∙ ap (λ x. x.0) swept_b));
  }
    where
      ran_a : Left A
      ran_a = ran A ok

      ran_b : Left B
      ran_b = ran B ok_b

pub demand_3 : Demand3
demand_3 = alike

-- A IS AMONG ITS OWN RELISTINGS
pub itself : (A : List ℕ) → check_of A ≡ accepted → Relisting A A (rows A) (λ n. n) (λ n. n)
itself A ok = record {
  made = (accepted_whole A ok).bytes;
  as_many = refl;
  same_colour = λ n h. refl;
  one_to_one = record { there = λ n h. h; home = λ n h. h; τσ = λ n h. refl; στ = λ n h. refl };
  same_bytes = λ n h. refl;
  overflow_own = λ n h e. refl;
}
