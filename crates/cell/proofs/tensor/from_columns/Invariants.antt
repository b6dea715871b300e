-- Six columns, one a turn.
use Rattle.std.specs.Prelude.{[], get_or}
use Rattle.loops.specs.Loops.{Ran}
use Rattle.strain.specs.Columns.{set_column}
use Rattle.cell.proofs.tensor.from_columns.Given as goal

abbrev pub invariant-loop-j : goal.invariant-loop-j
invariant-loop-j l = Ran 6 (λ j m. set_column m j (get_or l.c j [])) l.initial.r l.j l.r
