-- A main step and the resweeps leave every byte of a row that they do not assign. Assumes nothing.
use Rattle.std.proofs.Common.{ℕ, zero, suc, ◌≡◌, refl, sym, ap, ◌∙◌, subst, Bool, true, false, List, [], ◌∷◌, get_or, replicate, Float}
use Rattle.little_endian.specs.Bytes.{le16}
use Rattle.little_endian.proofs.Parts.{Bytes}
use Rattle.relisting.specs.Steps.{pick, nothing, sweep, sweeps}
use Rattle.records.specs.declared.Due.TheVariants.{Row}
use Rattle.acceptance.specs.Whole.{row, Good}
use Rattle.stored.specs.Read.{row_of}
use Rattle.stored.specs.Points.{Points, only, update, warm, solve, main_step, resweep_step}
use Rattle.stored.specs.PhaseLaws.{positions_on, velocities_on, update_is, warm_is, solve_is}
use Rattle.stored.specs.Sizes.{alike_kind, update_steady, warm_steady, solve_steady}
use Rattle.unassigned.specs.Assigned.{Field, when, Outside, assigned_in_update, assigned_in_warm, assigned_in_solve}
use Rattle.unassigned.specs.Stays.{assigned_in_main}
use Rattle.unassigned.proofs.Beside.{outside_split}
use Rattle.unassigned.proofs.Impulses.{warm_leaves, solve_leaves}
use Rattle.unassigned.proofs.Updates.{update_leaves}

-- ---- a warm start and a solve assign by the kind alone

abbrev pub SameKind : List ℕ → List ℕ → Type 0
SameKind c b = le16 c 4 ≡ le16 b 4

warm_by_kind : (c b : List ℕ) → SameKind c b → assigned_in_warm c ≡ assigned_in_warm b
unfolding assigned_in_warm
warm_by_kind c b e = rw e refl

pub solve_by_kind : (c b : List ℕ) → SameKind c b → assigned_in_solve c ≡ assigned_in_solve b
unfolding assigned_in_solve
solve_by_kind c b e = rw e refl

-- ---- a main step

-- what is outside of all is outside of the solve
pub solve_outside : (k : ℕ) (u w : Bool) (b : List ℕ) (ps : Points) → Outside k (assigned_in_main u w b ps) → Outside k (assigned_in_solve b)
unfolding assigned_in_main
solve_outside k u w b ps o =
    let p = outside_split k (when u (assigned_in_update (positions_on b ps) b)) _ o in
    (outside_split k (when w (assigned_in_warm b)) _ p.1).1

module _ (N : ℕ) (k : ℕ) where
  updated : (c : ℕ) (b : List ℕ) → Bytes b → Good Row c b → (u : Bool) (least : Float) (ps : Points)
      → Outside k (when u (assigned_in_update (positions_on b ps) b)) → get_or (only u (update N least) b ps).0 k 0 ≡ get_or b k 0
  updated c b y g true least ps o = ap (λ (l : List ℕ). get_or l k 0) (update_is N b ps least) ∙ update_leaves c b y g least (positions_on b ps) k o
  updated c b y g false least ps o = refl

  updated_kind : (b : List ℕ) (u : Bool) (least : Float) (ps : Points) → SameKind (only u (update N least) b ps).0 b
  updated_kind b true least ps = alike_kind _ b ((update_steady N least).row b ps)
  updated_kind b false least ps = refl

  warmed : (b : List ℕ) (w : Bool) (coeff : Float) (ps : Points) → Outside k (when w (assigned_in_warm b)) → get_or (only w (warm N coeff) b ps).0 k 0 ≡ get_or b k 0
  warmed b true coeff ps o = ap (λ (l : List ℕ). get_or l k 0) (warm_is N b ps coeff) ∙ warm_leaves k b coeff o
  warmed b false coeff ps o = refl

  warmed_kind : (b : List ℕ) (w : Bool) (coeff : Float) (ps : Points) → SameKind (only w (warm N coeff) b ps).0 b
  warmed_kind b true coeff ps = alike_kind _ b ((warm_steady N coeff).row b ps)
  warmed_kind b false coeff ps = refl

  solved : (b : List ℕ) (ps : Points) → Outside k (assigned_in_solve b) → get_or (solve N b ps).0 k 0 ≡ get_or b k 0
  solved b ps o = ap (λ (l : List ℕ). get_or l k 0) (solve_is N b ps) ∙ solve_leaves k b (velocities_on b ps) o

  solved_kind : (b : List ℕ) (ps : Points) → SameKind (solve N b ps).0 b
  solved_kind b ps = alike_kind _ b ((solve_steady N).row b ps)

  module _ (c : ℕ) (b : List ℕ) (y : Bytes b) (g : Good Row c b) (u w : Bool) (coeff least : Float) (ps : Points) where
    -- the row and the points after the update, and after the warm start
    abbrev x1 : List ℕ × Points
    x1 = only u (update N least) b ps

    abbrev x2 : List ℕ × Points
    x2 = only w (warm N coeff) x1.0 x1.1

    kind1 : SameKind x1.0 b
    kind1 = updated_kind b u least ps

    kind2 : SameKind x2.0 b
    kind2 = warmed_kind x1.0 w coeff x1.1 ∙ kind1

    -- A MAIN STEP OF A GOOD ROW LEAVES EVERY BYTE THAT IT DOES NOT ASSIGN
    pub main_leaves : Outside k (assigned_in_main u w b ps) → get_or (main_step N u w coeff least b ps).0 k 0 ≡ get_or b k 0
    unfolding assigned_in_main
    main_leaves o =
        let p = outside_split k (when u (assigned_in_update (positions_on b ps) b)) _ o in
        let q = outside_split k (when w (assigned_in_warm b)) _ p.1 in
        solved x2.0 x2.1 (subst (Outside k) (sym (solve_by_kind x2.0 b kind2)) q.1)
        ∙ warmed x1.0 w coeff x1.1 (subst (λ (fs : List Field). Outside k (when w fs)) (sym (warm_by_kind x1.0 b kind1)) q.0)
        ∙ updated c b y g u least ps p.0

    pub main_kind : SameKind (main_step N u w coeff least b ps).0 b
    main_kind = solved_kind x2.0 x2.1 ∙ kind2

  -- ---- resweeps

  -- c is of the kind of b, and has its bytes where a solve assigns none
  pub record Resolved (c b : List ℕ) : Type 0 where
    pub kind : SameKind c b
    pub stays : Outside k (assigned_in_solve b) → get_or c k 0 ≡ get_or b k 0

  resolved_refl : (b : List ℕ) → Resolved b b
  resolved_refl b = record { kind = refl; stays = λ o. refl }

  resolved_trans : {b c d : List ℕ} → Resolved d c → Resolved c b → Resolved d b
  resolved_trans {b} {c} {d} x y = record {
    kind = x.kind ∙ y.kind;
    stays = λ o. x.stays (subst (Outside k) (sym (solve_by_kind c b y.kind)) o) ∙ y.stays o;
  }

  -- A RESWEEP'S STEP LEAVES EVERY BYTE THAT A SOLVE DOES NOT ASSIGN
  pub resweep_leaves : (b : List ℕ) (ps : Points) → Resolved (resweep_step N b ps).0 b
  resweep_leaves b ps = one (row_of b).strained
    where
      one : (t : Bool) → Resolved (pick t (solve N) nothing b ps).0 b
      one true = record { kind = solved_kind b ps; stays = solved b ps }
      one false = resolved_refl b

  swept_once : (bs : List (List ℕ)) (ps : Points) (n : ℕ) → Resolved (row (sweep (resweep_step N) bs ps).0 n) (row bs n)
  swept_once [] ps n = resolved_refl []
  swept_once (b ∷ bs) ps zero = resweep_leaves b ps
  swept_once (b ∷ bs) ps (suc n) = swept_once bs (resweep_step N b ps).1 n

  pub swept_again : (j : ℕ) (x : List (List ℕ) × Points) (n : ℕ) → Resolved (row (sweeps (replicate j (resweep_step N)) x).0 n) (row x.0 n)
  swept_again zero x n = resolved_refl (row x.0 n)
  swept_again (suc j) x n =
      let z = sweep (resweep_step N) x.0 x.1 in
      resolved_trans (swept_again j z n) (swept_once x.0 x.1 n)
