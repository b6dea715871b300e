-- The bytes that are written are the answer to those that were read. Assumes nothing.
use Rattle.std.proofs.Common.{arith, length, ◌≤◌}
use Rattle.std.proofs.lemmas.Result.{on_ok_weaker}
use Rattle.formrun.proofs.Worked.{served}
use Rattle.formrun.proofs.serve.Goals as goal

pub returns : goal.returns
returns g c =
    let s = c.read_input.new.buf in
    let room : 65537 ≤ length s = omega (arith, c.told-buf, c.read_input.auto.buf) in
    on_ok_weaker c.write_all.result
    (served (g.R.Read.remaining c.args.input.now) _ _ c.in_ok-len.len s c.answer-bytes.result.now room c.in_ok-len.ensures.bytes c.answer-bytes.ensures)
    c.write_all.ensures.bytes
