-- `strain::column` meets its contract: the definition is what the closure gives, written out. Assumes nothing.
use Rattle.std.specs.Prelude.{◌≡◌, ◌+◌, ◌*◌}
use Rattle.std.proofs.Common.{rules, arith}
use Rattle.loops.specs.Fill.{tabulated}
use Rattle.real.specs.Float.{at}
use Rattle.strain.specs.Matrix.{column}
use Rattle.strain.proofs.column.Goals as goal

pub returns : goal.returns
unfolding column
returns c =
    let first : c.args.j * 6 + 0 ≡ c.args.j * 6 = omega arith in
    rw first at (tabulated _ (λ i. at c.args.m.now (c.args.j * 6 + i)) (λ i y q called. search rules) c.from_fn.ensures.items)
