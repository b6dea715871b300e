-- The parts of a neo-Hookean row's update and of its solve, with what each reads of the record. Definitions only. Assumes nothing.
use Rattle.std.specs.Prelude.{ℕ, Bool, cond, List, Option, Some, None, Float}
use Rattle.little_endian.specs.Bytes.{f32_at}
use Rattle.vector.specs.declared.Vec3.{Vec3}
use Rattle.vector.specs.declared.Mat3.{Mat3}
use Rattle.vector.specs.declared.Four.{Four}
use Rattle.strain.specs.Six.{scale6}
use Rattle.places.specs.Places.{Holds}
use Rattle.records.specs.Layout as at
use Rattle.cell.specs.Cell.{update_pose, is_strained}
use Rattle.energy.specs.Hessian.{gradient}
use Rattle.neo_hookean.specs.NeoHookean.{is_fresh, renewed, strain_step}
use Rattle.energy.specs.declared.Energy.{Energy}
use Rattle.neo_hookean.specs.declared.Block.{Block}
use Rattle.floats.specs.Fields.{four_at, masses_at, floats_at, put_floats}
use Rattle.stored.specs.Read.{cell_of, pose_of, compliance_of, material_of, stiffness_of}
use Rattle.stored.specs.Put.{put_flag, put_pose, put_renewed}
use Rattle.neo_hookean_record.specs.declared.Update.{Update}

abbrev pub energy_anew : List Float → List ℕ → Energy
energy_anew strain b = gradient (f32_at b at.neo_mu) (f32_at b at.neo_lambda) strain

abbrev pub dt_grad_anew : Energy → List ℕ → List Float
dt_grad_anew e b = scale6 e.grad (f32_at b at.neo_dt)

-- whether the block is kept: the strain is within 0.02 of the one that it was computed at
abbrev pub is_kept : List Float → List ℕ → Bool
is_kept strain b = is_fresh strain (floats_at 6 b at.neo_stiffness_strain)

-- the block as a move past 0.02 renews it
unfoldable pub block_anew : Energy → List Float → List Float → List ℕ → Block
block_anew e strain dtGrad b = renewed (four_at b at.elastic_coeffs) (masses_at b at.row_im) (material_of b) e strain dtGrad

-- what an update assigns, with the energy that it computed on the way
unfoldable pub update_anew : Holds → List ℕ → Update
update_anew held b =
    let pose = update_pose (cell_of b) (pose_of b) held in
    let e = energy_anew pose.strain b in
    let dt_grad = dt_grad_anew e b in
    record { pose = pose; energy = e; dt_grad = dt_grad; block = cond (is_kept pose.strain b) None (Some (block_anew e pose.strain dt_grad b)) }

-- a renewed block put into the record
abbrev pub put_anew : Block → List ℕ → List ℕ
put_anew k b = put_renewed k.stiffness k.compliance.inv_a b

-- a block that is kept is not put
abbrev pub put_block : Option Block → List ℕ → List ℕ
put_block (Some k) b = put_anew k b
put_block None b = b

-- an update put into the record
unfoldable pub put_update : Update → Float → List ℕ → List ℕ
put_update u least b =
    put_flag (put_floats 6 (put_block u.block (put_pose u.pose b)) at.neo_dt_grad u.dt_grad) at.row_strained (is_strained u.pose.strain least)

-- what the strain rows take
unfoldable pub strain_step_at : Mat3 → Four Vec3 → List Float → Holds → List ℕ → List Float
strain_step_at rot coeffs impulse vel b = strain_step rot coeffs (compliance_of b).inv_a (stiffness_of b).m (stiffness_of b).dt_grad impulse vel
