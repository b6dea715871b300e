-- What reads put into a buffer, one behind the other. Assumes nothing.
use Rattle.std.specs.Prelude.{◌≡◌, ℕ, ◌+◌, ◌≤◌, List, ◌++◌, length, take, Result, Ok, Err, Option}
use Rattle.std.specs.Io.{ReadsAtMost}
use Rattle.std.specs.Io.KnownBytes.{Consumes, ReadConsumes}
use Rattle.std.specs.Result.{result_unwrap_or}
use Rattle.std.proofs.Common.{◌∙◌, ap, sym, subst, arith, length-append}
use Rattle.std.proofs.KnownBytes.{Consumes-nil, Consumes-kept, Consumes-trans}
use Rattle.std.proofs.lemmas.Slice.{take-put_mid}
use Rattle.std.proofs.Math.Seq.{take-append-add}
use lib.Seq.{take-take, length-take-le}
use borrow.Rule.Slice.PartMut.{put_mid, post_of}

-- one that failed put nothing
pub put_by : {E : Type 0} (r : Result ℕ E) (b c : Option (List ℕ)) (part : List ℕ) → ReadsAtMost r part → ReadConsumes b c r part
    → (result_unwrap_or r 0 ≤ length part) × Consumes b c (take (result_unwrap_or r 0) part)
put_by (Ok n) b c part few read = (few.0, read.0)
put_by (Err e) b c part few read = (omega arith, Consumes-kept b b c _ (Consumes-nil b) read)

-- n bytes more stand behind the first `done`
pub one_more : (a b c : Option (List ℕ)) (done k n : ℕ) (xs part : List ℕ) → done ≤ length xs → n ≤ length part → Consumes a b (take done xs)
    → Consumes b c (take n part) → (done + n ≤ length (put_mid done k xs part)) × Consumes a c (take (done + n) (put_mid done k xs part))
one_more a b c done k n xs part fits few before read =
    let first : length (take done xs) ≡ done = length-take-le done xs fits in
    let both : take (done + n) (put_mid done k xs part) ≡ take done xs ++ take n part =
    sym (take-take (done + n) (done + length part) _ (omega (arith, few))) ∙ ap (take (done + n)) (take-put_mid done k xs part _ (omega arith) fits)
    ∙ ap (λ m. take (m + n) (take done xs ++ part)) (sym first) ∙ take-append-add (take done xs) part n in
    let long = length-append (take done xs) (part ++ post_of done k xs) in
    let behind = length-append part (post_of done k xs) in
    (omega (arith, long, behind, first, few), subst (Consumes a c) (sym both) (Consumes-trans a b c _ _ before read))
