-- The neo-Hookean row whole: which parts of it its update, warm start and solve assign. As soft_elastic_constraint.rs and `solve_color_constraint` have it. Definitions only. Assumes nothing.
use Rattle.places.specs.Places.{Holds}
use Rattle.std.specs.Prelude.{Float}
use Rattle.cell.specs.Cell.{update_pose}
use Rattle.cell.specs.declared.Impulses.{Impulses}
use Rattle.places.specs.declared.Solved.{Solved}
use Rattle.neo_hookean.specs.NeoHookean.{update_block, solve_neo_hookean, warmstart_neo_hookean}
use Rattle.neo_hookean.specs.declared.NeoHookeanRow.{NeoHookeanRow}

unfoldable pub update : NeoHookeanRow → Holds → NeoHookeanRow
update r held =
    let pose = update_pose r.cell r.pose held in
    let k = update_block r.cell.coeffs r.cell.im r.material r.stiffness r.compliance.inv_a pose.strain in
    record { cell = r.cell; pose = pose; compliance = k.compliance; impulses = r.impulses; material = r.material; stiffness = k.stiffness }

abbrev pub with_impulses : NeoHookeanRow → Impulses → NeoHookeanRow
with_impulses r l = record { cell = r.cell; pose = r.pose; compliance = r.compliance; impulses = l; material = r.material; stiffness = r.stiffness }

-- the impulses anew, and what each place is to lose
unfoldable pub solve : NeoHookeanRow → Holds → Solved Impulses
solve r vel =
    solve_neo_hookean r.pose.rot_mat r.cell.coeffs r.cell.im r.compliance.inv_a r.stiffness.m r.stiffness.dt_grad r.impulses vel

unfoldable pub warmstart : NeoHookeanRow → Float → Solved Impulses
warmstart r coeff = warmstart_neo_hookean r.pose.rot_mat r.cell.coeffs r.cell.im r.impulses coeff
