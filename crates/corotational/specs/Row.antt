-- The corotational row whole: which parts of it its update, warm start and solve assign. As soft_elastic_constraint.rs and `solve_color_constraint` have it. Definitions only. Assumes nothing.
use Rattle.std.specs.Prelude.{Float}
use Rattle.places.specs.Places.{Holds, refreshed}
use Rattle.cell.specs.Cell.{deformation_gradient, posed}
use Rattle.cell.specs.declared.Impulses.{Impulses}
use Rattle.places.specs.declared.Solved.{Solved}
use Rattle.corotational.specs.Corotational.{update_volume, solve_corotational, warmstart_corotational}
use Rattle.corotational.specs.declared.CorotationalRow.{CorotationalRow}

unfoldable pub update : CorotationalRow → Holds → CorotationalRow
update r held =
    let cell = r.cell in
    let pos = refreshed held r.pose.pos in
    let f = deformation_gradient pos cell.inv_rest_matrix in
    let pose = posed cell.strain_cap r.pose.rotation pos f in
    record {
      cell = cell;
      pose = pose;
      compliance = r.compliance;
      impulses = r.impulses;
      springs = r.springs;
      volume = update_volume cell.inv_rest_matrix cell.coeffs cell.im r.springs r.compliance.inv_a pose.rot_mat pose.inverted f;
    }

-- what a warm start and a solve assign
abbrev pub with_impulses : CorotationalRow → Impulses → CorotationalRow
with_impulses r l = record { cell = r.cell; pose = r.pose; compliance = r.compliance; impulses = l; springs = r.springs; volume = r.volume }

-- the impulses anew, and what each place is to lose
unfoldable pub solve : CorotationalRow → Holds → Solved Impulses
solve r vel =
    solve_corotational r.pose.rot_mat r.cell.coeffs r.cell.im r.pose.strain r.compliance.inv_a r.springs.erp_strain r.springs.cfm_strain
    r.impulses r.volume vel

unfoldable pub warmstart : CorotationalRow → Float → Solved Impulses
warmstart r coeff = warmstart_corotational r.pose.rot_mat r.cell.coeffs r.cell.im r.impulses r.volume.grad_vol coeff
