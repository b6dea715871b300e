use Rattle.loops.specs.Loops.{Coming}
use Rattle.shape.specs.Rotation.{settled, next}
use Rattle.shape.proofs.rotation.extract_rotation.Given as goal

abbrev pub invariant-loop : goal.invariant-loop
invariant-loop l = Coming 8 (settled l.a) (next l.a) l.initial.q l.counter l.q
