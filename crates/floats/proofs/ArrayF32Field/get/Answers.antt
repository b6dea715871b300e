-- A list of floats read: each is what the closure gives. Assumes nothing.
use Rattle.std.proofs.Common.{◌+◌, ◌*◌, rules}
use Rattle.loops.specs.Fill.{tabulated}
use Rattle.little_endian.specs.Bytes.{f32_at}
use Rattle.floats.specs.Fields.{floats_at}
use Rattle.floats.proofs.ArrayF32Field.get.Goals as goal

pub returns : goal.returns
unfolding floats_at
returns g c = tabulated _ (λ i. f32_at c.args.b.now (c.args.k + 4 * i)) (λ i y q called. search rules) c.from_fn.ensures.items
