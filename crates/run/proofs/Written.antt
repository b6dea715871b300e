-- The floats of an accepted row are as put_f32 writes them: none is a NaN. Assumes nothing.
use Rattle.std.proofs.Common.{ℕ, ◌+◌, ◌*◌, ◌-◌, ◌/◌, ◌%◌, ◌≤◌, ◌≡◌, refl, sym, ◌∙◌, subst, Bool, true, false, List, arith, ltb, length}
use Rattle.std.proofs.Common.{ltb-true, ltb-false}
use Rattle.std.specs.Float.Ieee.{binary32, of_bits, is_nan}
use Rattle.little_endian.specs.Bytes.{le16, le32, is_finite}
use Rattle.little_endian.proofs.Floats.{finite_bits, nan_bits_lem}
use Rattle.records.specs.declared.Due.TheVariants.{Row}
use Rattle.records.specs.Answers.{Passed}
use Rattle.records.specs.Fields.{finite, run}
use Rattle.records.proofs.ByKind.{Kind, a_scalar, a_corotational, a_neo_hookean}
use Rattle.floats.specs.Written.{Written, AllWritten}
use Rattle.acceptance.specs.Whole.{Good}
use Rattle.acceptance.proofs.Parsing.{good_kind}
use Rattle.acceptance.proofs.Finites.{run_finite, scalar_run, scalar_bounds, corotational_run, neo_run}

finite_written : (n : ℕ) → is_finite (of_bits binary32 n) ≡ true → Written n
finite_written n h a = absurd (omega (arith, a, ltb-true (n % 2147483648) 2139095040 (sym (finite_bits n) ∙ h)))

no_nan_written : (n : ℕ) → is_nan (of_bits binary32 n) ≡ false → Written n
no_nan_written n h a = absurd (omega (arith, a, ltb-false 2139095040 (n % 2147483648) (sym (nan_bits_lem n) ∙ h)))

-- float at byte k of the n that pass
within : (b : List ℕ) (n k : ℕ) → Passed (run (finite b) 30 n) → 30 ≤ k → k % 4 ≡ 2 → k + 4 ≤ 30 + 4 * n → Written (le32 b k)
within b n k p f t l =
    let e : 30 + 4 * ((k - 30) / 4) ≡ k = omega arith in
    subst (λ (i : ℕ). Written (le32 b i)) e (finite_written _ (run_finite b n 30 ((k - 30) / 4) (omega arith) p))

pub row_written : (c : ℕ) (b : List ℕ) → Good Row c b → AllWritten b
row_written c b g = record { at = go (good_kind Row c b g) }
  where
    -- the 36 floats before a scalar row's bounds, and those
    scalar : le16 b 4 ≡ 3 → (k : ℕ) → 30 ≤ k → k % 4 ≡ 2 → k + 4 ≤ 182 → Written (le32 b k)
    scalar e k f t l = part (ltb k 174) refl (ltb k 178) refl
      where
        part : (u : Bool) → ltb k 174 ≡ u → (v : Bool) → ltb k 178 ≡ v → Written (le32 b k)
        part true x v y = within b 36 k (scalar_run c b e g.passed) f t (omega (arith, ltb-true k 174 x))
        part false x true y =
            let d : 174 ≡ k = omega (arith, ltb-false k 174 x, ltb-true k 178 y) in
            subst (λ (i : ℕ). Written (le32 b i)) d (no_nan_written _ (scalar_bounds c b e g.passed).0)
        part false x false y =
            let d : 178 ≡ k = omega (arith, ltb-false k 178 y) in
            subst (λ (i : ℕ). Written (le32 b i)) d (no_nan_written _ (scalar_bounds c b e g.passed).1)

    go : Kind Row (le16 b 4) (le32 b 0) → (k : ℕ) → 30 ≤ k → k % 4 ≡ 2 → k + 4 ≤ length b → Written (le32 b k)
    go (a_scalar e n) k f t l = scalar e k f t (omega (arith, l, g.size, n))
    go (a_corotational e n) k f t l = within b 147 k (corotational_run c b e g.passed) f t (omega (arith, l, g.size, n))
    go (a_neo_hookean e n) k f t l = within b 162 k (neo_run c b e g.passed) f t (omega (arith, l, g.size, n))
