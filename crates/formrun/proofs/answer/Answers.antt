-- By its three returns. Assumes nothing.
use Rattle.std.proofs.Common.{arith, rules, ◌≡◌}
use Rattle.records.specs.Answers.{number_of}
use Rattle.formrun.specs.Output.{output_of, refusal}
use Rattle.formrun.proofs.Returns.{longer, accepted, refused}
use Rattle.formrun.proofs.answer.Goals as goal

pub returns-then-frame-gt-MOST : goal.returns-then-frame-gt-MOST
returns-then-frame-gt-MOST c = longer c.args.frame.now (omega (arith, c.if-frame-gt-MOST.true))

pub returns-in-Ok : goal.returns-in-Ok
returns-in-Ok c =
    let q = c.run in
    accepted c.args.frame.now q.result (omega (arith, c.if-frame-gt-MOST.false)) q.ensures.0 q.new.s q.ensures.1 c.in-Ok.field-0 c.in-Ok.is

pub returns-in-Err : goal.returns-in-Err
returns-in-Err c =
    let s = c.args.frame.now in
    let q = c.run in
    let r = c.in-Err.refused in
    let e : refusal (number_of r.why) r.place ≡ output_of s = refused s q.result (omega (arith, c.if-frame-gt-MOST.false)) q.ensures.0 r c.in-Err.is in
    rw (← e) (search rules)
