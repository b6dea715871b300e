-- `records::fields::Fields::all_finite` meets its contract: after each turn the answer so far, with what is left, is the whole. Assumes nothing.
use Rattle.records.proofs.Finites.{sofar_more, sofar_all}
use Rattle.records.proofs.fields.Fields.all_finite.Goals as goal

pub loop-i-preserved : goal.loop-i-preserved
loop-i-preserved c = sofar_more c.loop-i.invariant c.loop-i-test.true c.is_finite_at-all.ensures

pub returns : goal.returns
returns c = sofar_all c.loop-i.invariant c.loop-i-test.false
