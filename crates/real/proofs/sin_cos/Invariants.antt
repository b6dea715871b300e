-- One doubling a turn.
use Rattle.loops.specs.Loops.{Ran}
use Rattle.real.specs.SinCos.{doubled}
use Rattle.real.proofs.sin_cos.Given as goal

abbrev pub invariant-loop : goal.invariant-loop
invariant-loop l = Ran 6 (λ i a. doubled a) l.initial.a l.counter l.a
