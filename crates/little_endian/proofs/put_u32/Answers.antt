-- `little_endian::put_u32` meets its contract. Assumes nothing.
use Rattle.std.proofs.Common.{sym, ◌∙◌, append_assoc}
use Rattle.std.proofs.lemmas.List.Edits.{sets-eq}
use Rattle.little_endian.specs.Bytes.{bytes4}
use Rattle.little_endian.proofs.Parts.{lend}
use Rattle.little_endian.proofs.put_u32.Goals as goal

pub returns : goal.returns
returns c =
    simp (c.copy_from_slice.ensures.after, c.to_le_bytes.ensures)
    (lend c.args.at 4 c.args.s.now (bytes4 c.args.n) ∙ sym (simp append_assoc at (sets-eq (bytes4 c.args.n) c.args.s.now c.args.at c.requires)))
