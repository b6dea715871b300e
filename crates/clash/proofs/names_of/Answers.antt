-- `clash::names_of` meets its contract: the id of each place, one after another. Assumes nothing.
use Rattle.std.proofs.Common.{◌+◌, ◌*◌, ltb, rules, refl}
use Rattle.little_endian.specs.Bytes.{le32}
use Rattle.loops.specs.Fill.{tabulated}
use Rattle.clash.specs.Marks.{names_of, placed}
use Rattle.clash.proofs.names_of.Goals as goal

pub returns : goal.returns
unfolding names_of placed
returns c =
    let ids = tabulated _ (λ i. placed (ltb i c.from-count.result) (le32 c.args.b.now (14 + 4 * i))) (λ i y q called. search rules) c.from_fn.ensures.items in
    rw (c.get_u16.ensures, ids, c.from-count.ensures, c.count_of.ensures) refl
