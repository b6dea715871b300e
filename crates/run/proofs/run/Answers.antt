-- `run::run` meets its contract. Assumes nothing.
use Rattle.std.proofs.Common.{rules}
use Rattle.run.proofs.Runs.{long, ready, calm, run_is, not_run}
use Rattle.run.proofs.run.Goals as goal

pub returns-in_err-check : goal.returns-in_err-check
returns-in_err-check c = (search rules, not_run _ _ c.check.ensures _ c.in_err-check.was)

-- an accepted frame has a head,
-- and what is read of it are the numbers of the rules
pub invariant_of-head : goal.invariant_of-head
invariant_of-head c = record { long = long _ _ c.check.ensures c.in_ok-check.was }

pub sweep_all-requires : goal.sweep_all-requires
sweep_all-requires c = (ready _ _ c.check.ensures c.in_ok-check.was _ _ c.points-n.ensures c.rows-r.ensures, calm _ _ c.check.ensures c.in_ok-check.was _ c.points-n.ensures)

pub returns : goal.returns
returns c = (c.in_ok-check.ensures, run_is _ _ c.check.ensures c.in_ok-check.was _ _ _ _ _ c.main_phases-p.ensures c.resweeps-k.ensures c.points-n.ensures c.rows-r.ensures c.sweep_all.ensures)
