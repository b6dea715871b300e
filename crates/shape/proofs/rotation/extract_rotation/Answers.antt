-- `shape::rotation::extract_rotation` meets its contract. Before turn i what is still to come of q is the definition's answer. Assumes nothing.
use Rattle.std.specs.Prelude.{◌≡◌, Bool, Float}
use Rattle.std.specs.Float.Ieee.{lt}
use Rattle.std.proofs.Common.{rules}
use Rattle.vector.specs.declared.Vec3.{Vec3}
use Rattle.vector.specs.declared.Mat3.{Mat3}
use Rattle.vector.specs.declared.Quat.{Quat}
use Rattle.vector.specs.Vector.{length_of}
use Rattle.loops.specs.Loops.{coming_more, coming_stop}
use Rattle.shape.specs.Rotation.{noise, correction, settled, next, extract_rotation}
use Rattle.shape.proofs.rotation.extract_rotation.Goals as goal

-- the code's test is the definition's
tested : {o : Vec3} {w : Float} {b : Bool} (a : Mat3) (q : Quat) → o ≡ correction a q → w ≡ length_of o → lt w noise ≡ b → settled a q ≡ b
unfolding settled
tested a q eo ew h = rw (← eo, ← ew) h

pub loop-preserved : goal.loop-preserved
unfolding next
loop-preserved c =
    coming_more c.loop.invariant (search rules) (tested c.args.a c.loop.q c.correction-o.ensures c.length-w.ensures c.if-w.false) (cc)

pub returns-then-w : goal.returns-then-w
unfolding extract_rotation
returns-then-w c =
    coming_stop c.loop.invariant (search rules) (tested c.args.a c.loop.q c.correction-o.ensures c.length-w.ensures c.if-w.true)
