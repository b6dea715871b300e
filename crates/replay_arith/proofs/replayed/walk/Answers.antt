-- One record is replayed a turn. Assumes nothing.
use Rattle.std.proofs.Common.{rules, subst, ◌∙◌, ◌*◌, ◌≤◌, arith}
use Rattle.replay.specs.Words.{words_of_part}
use Rattle.replay.specs.Tallies.{Walked, none_taken, one_taken, few_taken, all_taken, begins, again, ends, miss_few}
use Rattle.replay_arith.proofs.replayed.walk.Goals as goal

pub loop-bytes-init : goal.loop-bytes-init
loop-bytes-init g c =
    record {
      can = search rules;
      finite = search rules;
      size = search rules;
      behind = rw (c.into_iter-bytes-iterator.ensures.into_iter_gives, c.chunks_exact-bytes-items.ensures.rest) none_taken;
      few = omega arith;
      walked = λ told e. begins;
    }

pub loop-bytes-preserved : goal.loop-bytes-preserved
loop-bytes-preserved g c =
    let so_far = c.loop-bytes.invariant in
    let step = c.in-Some.ensures.steps in
    let count = c.count.ensures in
    let long = step.1.1 ∙ so_far.size in
    let here = so_far.behind.left ∙ step.1.0 in
    record {
      can = search rules;
      finite = search rules;
      size = step.0 ∙ so_far.size;
      behind = rw count.records (one_taken _ _ so_far.behind step.1.0 long);
      few = omega (arith, so_far.few, miss_few c.agrees.result, count.records, count.differ);
      walked = λ told e. rw (← count.records) at (again (so_far.walked told e) (words_of_part _ _ _ _ _ here long) (e _ _ c.agrees.ensures) count.records count.differ);
    }

pub count-requires : goal.count-requires
count-requires g c =
    let so_far = c.loop-bytes.invariant in
    let step = c.in-Some.ensures.steps in
    let some : 1 ≤ 4 * c.args.size = omega (arith, c.requires.words.0) in
    let count = few_taken some (one_taken _ _ so_far.behind step.1.0 (step.1.1 ∙ so_far.size)) in
    search rules

pub returns : goal.returns
returns g c = λ told e.
    let so_far = c.loop-bytes.invariant in
    let end = all_taken so_far.behind (rw so_far.size at c.in-None.ensures.steps.1.0) in
    ends c.requires.words.0 (subst (λ n. Walked told c.args.s.now c.args.size n c.loop-bytes.tally) end (so_far.walked told e))
