-- One float after another is compared. Assumes nothing.
use Rattle.std.proofs.Common.{rules, arith, ◌≡◌, ◌+◌, Bool, true, false, ℕ, tests}
use Rattle.std.proofs.lemmas.Iterator.{cases_from_all, YieldsList-from_range}
use Rattle.real.specs.Float.{at}
use Rattle.replay.specs.Words.{float_is, floats_are, words_of}
use Rattle.replay.proofs.Compared.{all_of}
use Rattle.replay.proofs.in_words.ArrayF32InWords.is_at.Goals as goal

pub returns : goal.returns
unfolding floats_are
returns g c =
    let same : ℕ → Bool = λ i. float_is (words_of c.args.bytes.now) (c.args.k + i) (at c.args.self.now i) in
    all_of same c.all.result g.row.N
    (cases_from_all _ _ _ (λ i. same i ≡ true) (λ i. same i ≡ false) c.all.ensures.ran (YieldsList-from_range 0 g.row.N g.row.N (search rules) (omega arith))
    (λ x q k. search (rules, tests)) (λ x q k. search (rules, tests)))
