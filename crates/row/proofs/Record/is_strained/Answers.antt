-- `row::Record::is_strained` meets its contract. Assumes nothing.
use Rattle.std.proofs.Common.{arith}
use Rattle.row.proofs.ByKind.{long_row}
use Rattle.row.proofs.Record.is_strained.Goals as goal

pub get_u16-requires : goal.get_u16-requires
get_u16-requires c = omega (arith, long_row _ _ c.args.self.wide)
