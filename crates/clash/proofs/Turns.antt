-- The loop of the clash test, one row a turn. Assumes nothing.
use Rattle.std.proofs.Common.{ℕ, suc, ◌+◌, ◌-◌, ◌≤◌, ◌<◌, ◌≡◌, refl, sym, ap, ◌∙◌, subst, Bool, List, [], ◌∷◌, arith, length, take}
use Rattle.std.proofs.Common.{replicate, Option, None, Result, Ok, Err}
use Rattle.std.proofs.Math.Nat.{sub-zero}
use Rattle.little_endian.specs.Bytes.{le16, le32}
use Rattle.little_endian.proofs.Parts.{Bytes, le16_small, le16_part}
use Rattle.records.specs.declared.Due.TheVariants.{Row}
use Rattle.records.specs.declared.Refusal.TheVariants.{Clash}
use Rattle.records.specs.declared.Refused.{Refused}
use Rattle.records.specs.Answers.{refuse, outcome, Passed}
use Rattle.records.specs.Fields.{fields}
use Rattle.records.specs.Records.{record_length, record_at, record_tests, records_tests}
use Rattle.records.proofs.Rest.{Rest, rest_begin, rest_again, rest_stops, rest_ends, sub_turn}
use Rattle.records.proofs.Firsts.{◌and_then◌, outcome_append, passed_split}
use Rattle.records.proofs.ByKind.{Kind, a_scalar, a_corotational, a_neo_hookean}
use Rattle.records.proofs.Shapes.{Shaped, record_passed, kind_of, kind_record}
use Rattle.records.proofs.Values.{row_last}
use Rattle.clash.specs.declared.Names.{Names}
use Rattle.clash.specs.Clash.{Key, key_of, clashes, clash_tests}
use Rattle.clash.specs.Marks.{names_of, clashing, mark_row}
use Rattle.clash.proofs.Places.{colour_key}
use Rattle.clash.proofs.Marking.{Below, below_any, below_more, below_cons, Marked, no_marks, clashing_is, marked_row}

-- ---- a row that passed its tests

pub row_long : {k n : ℕ} → Kind Row k n → 178 ≤ n
row_long (a_scalar k e) = omega arith
row_long (a_corotational k e) = omega arith
row_long (a_neo_hookean k e) = omega arith

module _ (s : List ℕ) (off c : ℕ) (x : Shaped Row s off) where
  row_kind : Kind Row (le16 (record_at s off) 4) (le32 s off)
  row_kind = subst (λ (k : ℕ). Kind Row k (le32 s off)) (sym (kind_record x)) (kind_of x)

  row_colour_lem : le16 (record_at s off) 6 ≡ le16 s (off + 6)
  row_colour_lem = le16_part s off (record_length s off) 6 (omega (arith, row_long (kind_of x)))

  row_rises : Passed (fields (record_at s off) c) → c ≤ le16 (record_at s off) 6
  row_rises p = (row_last (record_at s off) c row_kind p).0

-- ---- the loop

pub record Seen : Type 0 where
  pub off : ℕ
  pub keys : List Key

abbrev pub seen : ℕ → List Key → Seen
seen o ks = record { off = o; keys = ks }

abbrev pub clashed : ℕ → List ℕ → ℕ → Seen → Result Unit Refused
clashed n s k a = outcome (clash_tests n k s a.off a.keys)

-- before turn i of k the row at off comes, after rows of these keys, and the rest of the rows pass their own tests
pub record Clashing (n : ℕ) (s : List ℕ) (k at₀ i off : ℕ) (ms : List (Option ℕ)) : Type 0 where
  pub keys : List Key
  pub last : ℕ
  pub going : Rest (clashed n s) k (seen at₀ []) i (seen off keys)
  pub left : Passed (records_tests Row (k - i) s off last)
  pub marked : Marked n ms keys
  pub falling : Below keys last

pub begins : (n : ℕ) (s : List ℕ) (k at₀ : ℕ) → n ≤ 4096 → Passed (records_tests Row k s at₀ 0) → Clashing n s k at₀ 0 at₀ (take n (replicate 4096 None))
begins n s k at₀ h p = record {
  keys = [];
  last = 0;
  going = rest_begin k (seen at₀ []);
  left = subst (λ (j : ℕ). Passed (records_tests Row j s at₀ 0)) (sym (sub-zero k)) p;
  marked = no_marks n h;
  falling = below_any 0;
}

module _ {n : ℕ} {s : List ℕ} {k at₀ i off : ℕ} {ms : List (Option ℕ)} (w : Clashing n s k at₀ i off ms) (h : i < k) where
  turn : Passed (record_tests Row s off w.last) × Passed (records_tests Row (k - (i + 1)) s (off + record_length s off) (le16 s (off + 6)))
  unfolding records_tests
  turn = passed_split (record_tests Row s off w.last) _ (subst (λ (j : ℕ). Passed (records_tests Row j s off w.last)) (sub_turn k i h) w.left)

  here : Shaped Row s off × Passed (fields (record_at s off) w.last)
  here = record_passed Row s off w.last turn.0

  pub whole : off + record_length s off ≤ length s
  whole = here.0.whole

  pub long : 30 ≤ record_length s off
  long = omega (arith, row_long (kind_of here.0))

  rises : w.last ≤ le16 (record_at s off) 6
  rises = row_rises s off w.last here.0 here.1

  small : Bytes s → le16 (record_at s off) 6 < 65536
  small y = omega (arith, row_colour_lem s off w.last here.0, le16_small s y (off + 6))

  clash_here : Bytes s → clashing ms (names_of (record_at s off)) ≡ clashes n w.keys (key_of (record_at s off))
  clash_here y = clashing_is n ms w.keys (record_at s off) w.marked (below_more w.keys w.last _ w.falling rises) (small y)

  -- t is whether the row clashes, and u what comes of it
  module _ (y : Bytes s) (b : List ℕ) (e : b ≡ record_at s off) (q : Names) (eq : q ≡ names_of b) (t : Bool) (et : t ≡ clashing ms q) (u : Result Unit Refused) (eu : u ≡ outcome (refuse Clash off t)) where
    same : t ≡ clashes n w.keys (key_of (record_at s off))
    same = et ∙ ap (clashing ms) (eq ∙ ap names_of e) ∙ clash_here y

    one : (j : ℕ) → clashed n s (suc j) (seen off w.keys) ≡ (u and_then clashed n s j (seen (off + record_length s off) (key_of (record_at s off) ∷ w.keys)))
    unfolding clash_tests
    one j = outcome_append (refuse Clash off (clashes n w.keys (key_of (record_at s off)))) _ ∙ simp (← same, ← eu) refl

    pub refuses : (x : Refused) → u ≡ Err x → Err x ≡ outcome (clash_tests n k s at₀ [])
    refuses x z = rest_stops w.going h (λ j. one j ∙ simp z)

    pub again : (v : Unit) (ms' : List (Option ℕ)) (off' : ℕ) → u ≡ Ok v → ms' ≡ mark_row ms q → off' ≡ off + record_length s off → Clashing n s k at₀ (i + 1) off' ms'
    again v ms' off' z m o =
        record {
          keys = key_of (record_at s off) ∷ w.keys;
          last = le16 s (off + 6);
          going = rest_again (seen off' (key_of (record_at s off) ∷ w.keys)) w.going h (λ j. one j ∙ simp (z, o));
          left = subst (λ (x : ℕ). Passed (records_tests Row (k - (i + 1)) s x (le16 s (off + 6)))) (sym o) turn.1;
          marked = subst (λ (l : List (Option ℕ)). Marked n l (key_of (record_at s off) ∷ w.keys)) (sym (m ∙ ap (mark_row ms) (eq ∙ ap names_of e)))
              (marked_row n ms w.keys (record_at s off) w.marked);
          falling = below_cons (key_of (record_at s off)) w.keys w.last (le16 s (off + 6)) w.falling
              (omega (arith, colour_key (record_at s off), rises)) (omega (arith, colour_key (record_at s off), row_colour_lem s off w.last here.0));
        }

pub ends : {n : ℕ} {s : List ℕ} {k at₀ i off : ℕ} {ms : List (Option ℕ)} → Clashing n s k at₀ i off ms → k ≤ i → Ok tt ≡ outcome (clash_tests n k s at₀ [])
unfolding clash_tests outcome
ends w h = rest_ends w.going h
