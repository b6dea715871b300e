-- `root::root` meets its contract. Each return is a case of the definition, by the tests that led to it. Assumes nothing.
use Rattle.std.specs.Prelude.{refl, not}
use Rattle.std.proofs.Common.{sym, ◌∙◌, le-leb, eq-eqb, ne_eqb}
use Rattle.std.proofs.lemmas.Bool.{lt-leb}
use Rattle.std.specs.Float.{binary32}
use Rattle.std.specs.Float.Ieee.{is_nan, div, of_bits, nan_bits}
use denote.Floats.{passes}
use Rattle.root.specs.Root.{root_of}
use Rattle.root.specs.Floats.{differs, is_nan_lem, pattern_of_number}
use Rattle.root.proofs.root.Goals as goal

pub returns-then-is_nan : goal.returns-then-is_nan
unfolding root_of is_nan
returns-then-is_nan c = rw (is_nan_lem c.args.x (differs c.args.x ∙ sym c.is_nan.ensures.value ∙ c.if-is_nan.true)) refl

pub returns-then-b-eq0 : goal.returns-then-b-eq0
unfolding root_of
returns-then-b-eq0 c = rw (sym c.is_nan.ensures.value ∙ c.if-is_nan.false, eq-eqb _ _ c.if-b-eq0.true) refl

pub returns-then-b-ge2147483648 : goal.returns-then-b-ge2147483648
unfolding root_of div of_bits
returns-then-b-ge2147483648 c = rw (sym c.is_nan.ensures.value ∙ c.if-is_nan.false, ne_eqb _ _ c.if-b-eq0.false, le-leb _ _ c.if-b-ge2147483648.true) refl

pub returns-then-b-ge2139095040 : goal.returns-then-b-ge2139095040
unfolding root_of
returns-then-b-ge2139095040 c =
    rw (
      sym c.is_nan.ensures.value ∙ c.if-is_nan.false,
      ne_eqb _ _ c.if-b-eq0.false,
      lt-leb _ _ c.if-b-ge2147483648.false,
      le-leb _ _ c.if-b-ge2139095040.true,
    )
    refl

pub float_from_bits-result : goal.float_from_bits-result
float_from_bits-result c =
    let b = c.root_bits.result in
    passes (not (nan_bits binary32 b)) (rw (pattern_of_number b c.root_bits.ensures.upper_bound) refl)

pub returns : goal.returns
unfolding root_of
returns c =
    rw (
      sym c.is_nan.ensures.value ∙ c.if-is_nan.false,
      ne_eqb _ _ c.if-b-eq0.false,
      lt-leb _ _ c.if-b-ge2147483648.false,
      lt-leb _ _ c.if-b-ge2139095040.false,
      ← c.root_bits.ensures.value,
    )
    refl
