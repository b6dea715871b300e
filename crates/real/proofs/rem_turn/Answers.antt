-- `real::rem_turn` meets its contract, by the number's size. Assumes nothing.
use Rattle.std.specs.Prelude.{refl, true, false}
use Rattle.std.proofs.Common.{sym, ◌∙◌, le-leb, ne_eqb}
use Rattle.std.proofs.lemmas.Bool.{lt-leb}
use Rattle.std.specs.Float.{binary32}
use Rattle.std.specs.Float.Ieee.{fits, neg, of_bits, rem}
use denote.Floats.{passes}
use Rattle.root.specs.Floats.{differs, is_nan_lem}
use Rattle.real.specs.SinCos.{rem_turn}
use Rattle.real.proofs.Turn.{not_finite, stays, made}
use Rattle.real.proofs.rem_turn.Goals as goal

pub returns-then-is_nan : goal.returns-then-is_nan
unfolding rem_turn rem
returns-then-is_nan c = rw (is_nan_lem c.args.x (differs c.args.x ∙ sym c.is_nan.ensures.value ∙ c.if-is_nan.true)) refl

pub returns-then-power-eq255 : goal.returns-then-power-eq255
unfolding rem_turn
returns-then-power-eq255 c = not_finite c.args.x (passes (fits binary32 c.args.x) c.well_formed.0.1) c.if-power-eq255.true

pub returns-then-power-lt129 : goal.returns-then-power-lt129
unfolding rem_turn
returns-then-power-lt129 c = stays c.args.x (passes (fits binary32 c.args.x) c.well_formed.0.1) c.if-power-lt129.true

pub returns-then-b-ge-SIGN : goal.returns-then-b-ge-SIGN
unfolding rem_turn neg of_bits
returns-then-b-ge-SIGN c =
    made c.args.x (passes (fits binary32 c.args.x) c.well_formed.0.1) true c.left_of-r.result (le-leb _ _ c.if-b-ge-SIGN.true) c.if-power-lt129.false (ne_eqb _ _ c.if-power-eq255.false) c.left_of-r.ensures

pub returns : goal.returns
unfolding rem_turn of_bits
returns c =
    made c.args.x (passes (fits binary32 c.args.x) c.well_formed.0.1) false c.left_of-r.result (lt-leb _ _ c.if-b-ge-SIGN.false) c.if-power-lt129.false (ne_eqb _ _ c.if-power-eq255.false) c.left_of-r.ensures
