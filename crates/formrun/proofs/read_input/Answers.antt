-- `formrun::read_input` meets its contract: what has been read fits the buffer, each turn reads more, and what stands in the buffer is what the input lost. Assumes nothing.
use Rattle.std.proofs.Common.{subst, sym, ap, ◌∙◌, List, ◌++◌, ℕ, take, drop, rules}
use Rattle.std.proofs.Math.Seq.{take-add}
use Rattle.std.proofs.KnownBytes.{Consumes-trans}
use Rattle.std.specs.Io.KnownBytes.{Consumes}
use Rattle.formrun.proofs.read_input.Goals as goal

pub loop-done-preserved : goal.loop-done-preserved
loop-done-preserved g c =
    let l = c.loop-done in
    let n = c.in_ok-n.n in
    let now = c.read_more.new.buf in
    let both = take-add l.done n now ∙ ap (λ (s : List ℕ). s ++ take n (drop l.done now)) c.read_more.ensures.kept in (
      search rules,
      search rules,
      subst (Consumes (g.R.Read.remaining c.args.input.now) (g.R.Read.remaining c.read_more.new.input)) (sym both)
          (Consumes-trans _ _ _ _ _ l.invariant.2 c.in_ok-n.ensures.bytes.0),
    )
