-- The floats of a good row are finite: its positions, and a scalar row's gradients. Assumes nothing.
use Rattle.std.proofs.Common.{ℕ, ◌+◌, ◌*◌, ◌≤◌, ◌≡◌, ap, ◌∙◌, List, arith}
use Rattle.little_endian.specs.Bytes.{le16, le32, f32_at, is_finite}
use Rattle.records.specs.declared.Due.TheVariants.{Row}
use Rattle.records.specs.Layout as at
use Rattle.records.specs.Answers.{Passed}
use Rattle.records.specs.Fields.{finite, run}
use Rattle.records.proofs.ByKind.{Kind, a_scalar, a_corotational, a_neo_hookean, due_kind}
use Rattle.floats.proofs.Same.{Finite3}
use Rattle.acceptance.specs.Whole.{Good}
use Rattle.acceptance.proofs.Finites.{run_finite, scalar_run, corotational_run, neo_run}
use Rattle.unassigned.proofs.Back.{Finite12}

module _ (b : List ℕ) (n : ℕ) (p : Passed (run (finite b) at.row_pos n)) where
  -- the three floats from float j on, and twelve
  three : (j : ℕ) → j + 3 ≤ n → Finite3 b (30 + 4 * j)
  three j h =
      record {
        x = run_finite b n 30 j (omega arith) p;
        y = ap (λ (i : ℕ). is_finite (f32_at b i)) (omega arith) ∙ run_finite b n 30 (j + 1) (omega arith) p;
        z = ap (λ (i : ℕ). is_finite (f32_at b i)) (omega arith) ∙ run_finite b n 30 (j + 2) (omega arith) p;
      }

  pos_finite : 12 ≤ n → Finite12 b at.row_pos
  pos_finite h = record { a = three 0 (omega arith); b = three 3 (omega arith); c = three 6 (omega arith); d = three 9 (omega arith) }

  grad_finite : 28 ≤ n → Finite12 b at.scalar_grad
  grad_finite h = record { a = three 16 (omega arith); b = three 19 (omega arith); c = three 22 (omega arith); d = three 25 (omega arith) }

module _ (c : ℕ) (b : List ℕ) where
  module _ (g : Good Row c b) where
    kind : Kind Row (le16 b 4) (le32 b 0)
    kind = due_kind Row (le16 b 4) (le32 b 0) g.due

    -- every row's positions are finite
    pub good_pos : Finite12 b at.row_pos
    good_pos = go kind
      where
        go : {n : ℕ} → Kind Row (le16 b 4) n → Finite12 b at.row_pos
        go (a_scalar k e) = pos_finite b 36 (scalar_run c b k g.passed) (omega arith)
        go (a_corotational k e) = pos_finite b 147 (corotational_run c b k g.passed) (omega arith)
        go (a_neo_hookean k e) = pos_finite b 162 (neo_run c b k g.passed) (omega arith)

    -- and a scalar row's gradients
    pub good_grad : le16 b 4 ≡ 3 → Finite12 b at.scalar_grad
    good_grad k = grad_finite b 36 (scalar_run c b k g.passed) (omega arith)
