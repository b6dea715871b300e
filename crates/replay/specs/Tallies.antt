-- What is counted of a file of records, and what of several files. What a file holds no contract can say: it is some list of bytes. Assumes nothing.
use Rattle.std.specs.Prelude.{◌≡◌, refl, ℕ, ◌+◌, ◌-◌, ◌*◌, ◌/◌, ◌%◌, ◌^◌, ◌<◌, ◌≤◌, Bool, true, false, cond, List, [], ◌∷◌, ◌++◌, length}
use Rattle.std.specs.Prelude.{drop}
use Rattle.std.proofs.Common.{◌∙◌, ap, sym, add-mul, add-one, arith}
use Rattle.std.proofs.Math.Nat.{div-mul-le_self, lt-div-mul-add, mul-le-mul_right, mul-le-mul_left, div-eq_of_lt-le, zero-mul}
use Rattle.std.proofs.lemmas.List.{length-drop, length-append, drop-drop, drop_at}
use Rattle.loops.specs.Loops.{up_to}
use Rattle.replay.specs.Words.{words_at}
use Rattle.replay.specs.declared.tally.Tally.{Tally}

-- the sums wrap only past any file's records
abbrev pub plus : Tally → Tally → Tally
plus t u = record { records = (t.records + u.records) % 2 ^ 64; differ = (t.differ + u.differ) % 2 ^ 64 }

-- 1 for a record that does not agree
abbrev pub miss : Bool → ℕ
miss b = cond b 0 1

pub miss_few : (b : Bool) → miss b ≤ 1
miss_few true = omega arith
miss_few false = omega arith

-- of how many of the first n records, of `size` words each, the answer is not what was stored
unfoldable pub misses : (List ℕ → Bool) → List ℕ → ℕ → ℕ → ℕ
misses agrees s size n = up_to n (λ i d. d + miss (agrees (words_at s (i * (4 * size)) size))) 0

-- the bytes are `records` whole records and less than one more, and `differ` of these do not agree
pub record Tallied (agrees : List ℕ → Bool) (s : List ℕ) (size : ℕ) (r : Tally) : Type 0 where
  pub whole : r.records * (4 * size) ≤ length s
  pub rest : length s < r.records * (4 * size) + 4 * size
  pub counted : r.differ ≡ misses agrees s size r.records
  pub few : r.differ ≤ r.records

-- r is t with the tally of some bytes added
pub record Replayed (agrees : List ℕ → Bool) (size : ℕ) (t r : Tally) : Type 0 where
  pub bytes : List ℕ
  pub tally : Tally
  pub tallied : Tallied agrees bytes size tally
  pub added : r ≡ plus t tally

-- what the records of a file say, and their words
pub record File : Type 0 where
  pub agrees : List ℕ → Bool
  pub size : ℕ

-- r is t with the tallies of files added, one after another
pub data Through : List File → Tally → Tally → Type 0 where
  none : {t : Tally} → Through [] t t
  one : {f : File} {fs : List File} {t u r : Tally} → Replayed f.agrees f.size t u → Through fs u r → Through (f ∷ fs) t r

-- ---- the walk over a file's records

-- i of them were passed
pub record Walked (agrees : List ℕ → Bool) (s : List ℕ) (size i : ℕ) (r : Tally) : Type 0 where
  pub passed : r.records ≡ i
  pub few : r.differ ≤ i
  pub counted : r.differ ≡ misses agrees s size i

-- record i of so many bytes ends within s
pub fits : (i bytes : ℕ) (s : List ℕ) → i < length s / bytes → i * bytes + bytes ≤ length s
fits i bytes s h = omega (arith, mul-le-mul_right {m = i + 1} {n = length s / bytes} bytes (omega arith), div-mul-le_self (length s) bytes, add-mul i 1 bytes)

-- rest is what is left of s behind the first i chunks of so many bytes
pub record Behind (s : List ℕ) (bytes i : ℕ) (rest : List ℕ) : Type 0 where
  pub left : drop (i * bytes) s ≡ rest
  pub inside : i * bytes ≤ length s

module _ {s : List ℕ} {bytes : ℕ} where
  pub none_taken : Behind s bytes 0 s
  none_taken = record { left = ap (λ n. drop n s) (zero-mul bytes); inside = omega arith }

  pub one_taken : {i : ℕ} {rest : List ℕ} (part more : List ℕ) → Behind s bytes i rest → rest ≡ part ++ more → length part ≡ bytes → Behind s bytes (i + 1) more
  one_taken {i} {rest} part more b e long =
      let after : i * bytes + bytes ≡ (i + 1) * bytes = omega (arith, add-mul i 1 bytes) in
      let counted : length rest ≡ length s - i * bytes = ap length (sym b.left) ∙ length-drop (i * bytes) s in
      let parts : length rest ≡ length part + length more = ap length e ∙ length-append part more in
      record {
        left =
            ap (λ n. drop n s) (sym after) ∙ sym (drop-drop bytes (i * bytes) s) ∙ ap (drop bytes) (b.left ∙ e)
            ∙ drop_at part more bytes long;
        inside = omega (arith, after, counted, parts, long, b.inside);
      }

  pub few_taken : {i : ℕ} {rest : List ℕ} → 1 ≤ bytes → Behind s bytes i rest → i ≤ length s
  few_taken {i} h b = omega (arith, b.inside, mul-le-mul_left {m = 1} {n = bytes} i h)

  pub all_taken : {i : ℕ} {rest : List ℕ} → Behind s bytes i rest → length rest < bytes → i ≡ length s / bytes
  all_taken {i} {rest} b short =
      let counted : length rest ≡ length s - i * bytes = ap length (sym b.left) ∙ length-drop (i * bytes) s in
      sym (div-eq_of_lt-le bytes b.inside (omega (arith, counted, short, b.inside, add-mul i 1 bytes)))

module _ {agrees : List ℕ → Bool} {s : List ℕ} {size : ℕ} where
  pub begins : Walked agrees s size 0 (record { records = 0; differ = 0 })
  unfolding misses
  begins = record { passed = refl; few = omega arith; counted = refl }

  pub again : {i : ℕ} {r u : Tally} {w : List ℕ} {b : Bool} → Walked agrees s size i r → w ≡ words_at s (i * (4 * size)) size → b ≡ agrees w
      → u.records ≡ r.records + 1 → u.differ ≡ r.differ + miss b → Walked agrees s size (i + 1) u
  unfolding misses
  again {i} {r} {u} {w} {b} h read e next more =
      record {
        passed = omega (arith, h.passed);
        few = omega (arith, h.few, miss_few b);
        counted = rw (add-one i, ← h.counted, ← read, ← e) more;
      }

  pub ends : {r : Tally} → 1 ≤ size → Walked agrees s size (length s / (4 * size)) r → Tallied agrees s size r
  ends {r} some h =
      let whole = div-mul-le_self (length s) (4 * size) in
      let rest = lt-div-mul-add {a = length s} {b = 4 * size} (omega arith) in
      record {
        whole = rw h.passed whole;
        rest = rw h.passed rest;
        counted = rw h.passed h.counted;
        few = rw h.passed h.few;
      }
