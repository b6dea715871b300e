-- The five texts, one behind the other, are the line. Assumes nothing.
use Rattle.std.proofs.Common.{rules, refl, ◌<◌, ◌^◌, append_assoc}
use Rattle.formrun.proofs.Printed.{line_of}
use Rattle.formrun.proofs.refusal_line.Goals as goal

pub returns : goal.returns
returns c =
    let r = c.args.refused in
    let small : r.place < 2 ^ 64 = search rules in
    rw (← line_of r small)
    (simp (
      c.push_str-5.ensures.bytes,
      c.push_str-4.ensures.bytes,
      c.push_str-3.ensures.bytes,
      c.push_str-2.ensures.bytes,
      c.push_str.ensures.bytes,
      c.new-line.ensures,
      c.format.ensures.text,
      c.format-2.ensures.text,
      c.number-number.ensures,
      append_assoc,
    ) refl)
