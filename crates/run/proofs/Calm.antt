-- The velocities of an accepted frame are finite. Assumes nothing.
use Rattle.std.proofs.Common.{ℕ, zero, suc, ◌+◌, ◌*◌, ◌≤◌, ◌<◌, ◌≡◌, sym, ap, ◌∙◌, subst, List, [], ◌∷◌, ◌++◌, append_assoc, arith}
use Rattle.std.proofs.Common.{not-suc-le-zero, le_of_suc-le-suc, length, length-append}
use Rattle.std.specs.Float.Ieee.{binary32, of_bits}
use Rattle.little_endian.specs.Bytes.{le16, le32, is_finite}
use Rattle.little_endian.proofs.Parts.{le32_middle}
use Rattle.records.specs.declared.Due.TheVariants.{Point}
use Rattle.records.specs.Answers.{Passed}
use Rattle.records.specs.Fields.{finite, run, point_fields}
use Rattle.records.specs.Records.{flatten}
use Rattle.records.proofs.ByKind.{Kind, a_point, fields_2}
use Rattle.floats.proofs.Same.{Finite3}
use Rattle.acceptance.specs.Whole.{Good, Chain}
use Rattle.acceptance.proofs.Parsing.{good_kind}
use Rattle.acceptance.proofs.Finites.{run_finite}
use Rattle.acceptance.proofs.Wholes.{point_length}

point_finite : (c : ℕ) (b : List ℕ) → Good Point c b → Finite3 b 18
unfolding point_fields
point_finite c b g = go (good_kind Point c b g)
  where
    passes : le16 b 4 ≡ 2 → Passed (run (finite b) 6 6)
    passes k = subst Passed (fields_2 b c k) g.passed

    go : {n : ℕ} → Kind Point (le16 b 4) n → Finite3 b 18
    go (a_point k e) = record { x = run_finite b 6 6 3 (omega arith) (passes k); y = run_finite b 6 6 4 (omega arith) (passes k); z = run_finite b 6 6 5 (omega arith) (passes k) }

-- in the middle of three parts
finite_middle : (A r B : List ℕ) (off k : ℕ) → length A ≡ off → k + 12 ≤ length r → Finite3 r k → Finite3 (A ++ (r ++ B)) (off + k)
finite_middle A r B off k e h f =
    let s = A ++ (r ++ B) in
    let e1 : off + k + 4 ≡ off + (k + 4) = omega arith in
    let e2 : off + k + 8 ≡ off + (k + 8) = omega arith in
    record {
      x = ap (λ (m : ℕ). is_finite (of_bits binary32 m)) (le32_middle A r B off e k (omega arith)) ∙ f.x;
      y = ap (λ (m : ℕ). is_finite (of_bits binary32 m)) (ap (le32 s) e1 ∙ le32_middle A r B off e (k + 4) (omega arith)) ∙ f.y;
      z = ap (λ (m : ℕ). is_finite (of_bits binary32 m)) (ap (le32 s) e2 ∙ le32_middle A r B off e (k + 8) (omega arith)) ∙ f.z;
    }

pub points_finite : (c : ℕ) (ps : List (List ℕ)) (A B : List ℕ) (off i : ℕ) → length A ≡ off → Chain Point c ps → i < length ps → Finite3 (A ++ (flatten ps ++ B)) (off + 30 * i + 18)
unfolding flatten Chain
points_finite c [] A B off i e g h = absurd (not-suc-le-zero h)
points_finite c (p ∷ ps) A B off zero e g h =
    let q : A ++ (p ++ (flatten ps ++ B)) ≡ A ++ ((p ++ flatten ps) ++ B) = ap (A ++◌) (sym (append_assoc p (flatten ps) B)) in
    let z : off + 18 ≡ off + 30 * 0 + 18 = omega arith in
    subst (λ (m : ℕ). Finite3 (A ++ ((p ++ flatten ps) ++ B)) m) z
    (subst (λ (l : List ℕ). Finite3 l (off + 18)) q (finite_middle A p (flatten ps ++ B) off 18 e (omega (arith, point_length c p g.0)) (point_finite c p g.0)))
points_finite c (p ∷ ps) A B off (suc i) e g h =
    let q : (A ++ p) ++ (flatten ps ++ B) ≡ A ++ ((p ++ flatten ps) ++ B) = append_assoc A p (flatten ps ++ B) ∙ ap (A ++◌) (sym (append_assoc p (flatten ps) B)) in
    let z : off + 30 + 30 * i + 18 ≡ off + 30 * suc i + 18 = omega arith in
    subst (λ (m : ℕ). Finite3 (A ++ ((p ++ flatten ps) ++ B)) m) z
    (subst (λ (l : List ℕ). Finite3 l (off + 30 + 30 * i + 18)) q
    (points_finite (le16 p 6) ps (A ++ p) B (off + 30) i (length-append A p ∙ omega (arith, e, point_length c p g.0)) g.1 (le_of_suc-le-suc h)))
