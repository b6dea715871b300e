-- Laws of parts of a list of bytes: what is read in a part, and in the middle one of three. Assumes nothing.
use Rattle.std.proofs.Common.{ℕ, ◌+◌, ◌-◌, ◌≤◌, ◌<◌, ◌≡◌, refl, sym, ap, ◌∙◌, List, ◌++◌, arith, length, get_or, take, drop, length-take}
use Rattle.std.proofs.Common.{length-drop, take_at, drop_at, get_or-take, get_or-drop, get_or-append-add, drop-drop}
use Rattle.std.proofs.Math.ListN.{get_or-append}
use Rattle.std.proofs.Math.Nat.{add-sub_cancel_left}
use Rattle.little_endian.specs.Bytes.{le16, le32, part}

-- ---- numbers in a part

module _ (s : List ℕ) (off n : ℕ) where
  at_part : (k : ℕ) → k < n → get_or (part off n s) k 0 ≡ get_or s (off + k) 0
  at_part k h = get_or-take n (drop off s) k 0 h ∙ get_or-drop off s k 0

  pub le16_part : (k : ℕ) → k + 2 ≤ n → le16 (part off n s) k ≡ le16 s (off + k)
  unfolding le16
  le16_part k h =
      let e : off + (k + 1) ≡ off + k + 1 = omega arith in
      simp (at_part k (omega arith), at_part (k + 1) (omega arith), e)

  pub le32_part : (k : ℕ) → k + 4 ≤ n → le32 (part off n s) k ≡ le32 s (off + k)
  unfolding le32
  le32_part k h =
      let e1 : off + (k + 1) ≡ off + k + 1 = omega arith in
      let e2 : off + (k + 2) ≡ off + k + 2 = omega arith in
      let e3 : off + (k + 3) ≡ off + k + 3 = omega arith in
      simp (at_part k (omega arith), at_part (k + 1) (omega arith), at_part (k + 2) (omega arith), at_part (k + 3) (omega arith), e1, e2, e3)

  pub length_part : off + n ≤ length s → length (part off n s) ≡ n
  length_part h = simp (length-take, length-drop) (omega arith)

-- ---- the middle one of three parts

pub part_middle : (A r B : List ℕ) (off : ℕ) → length A ≡ off → part off (length r) (A ++ (r ++ B)) ≡ r
part_middle A r B off e = ap (take (length r)) (drop_at A (r ++ B) off e) ∙ take_at r B (length r) refl

module _ (A r B : List ℕ) (off : ℕ) (e : length A ≡ off) where
  at_middle : (k : ℕ) → k < length r → get_or (A ++ (r ++ B)) (off + k) 0 ≡ get_or r k 0
  at_middle k h =
      ap (λ (n : ℕ). get_or (A ++ (r ++ B)) (n + k) 0) (sym e) ∙ get_or-append-add A (r ++ B) k 0 ∙ get_or-append r B 0 k h

  pub le16_middle : (k : ℕ) → k + 2 ≤ length r → le16 (A ++ (r ++ B)) (off + k) ≡ le16 r k
  unfolding le16
  le16_middle k h =
      let e1 : off + k + 1 ≡ off + (k + 1) = omega arith in
      simp (e1, at_middle k (omega arith), at_middle (k + 1) (omega arith))

  pub le32_middle : (k : ℕ) → k + 4 ≤ length r → le32 (A ++ (r ++ B)) (off + k) ≡ le32 r k
  unfolding le32
  le32_middle k h =
      let e1 : off + k + 1 ≡ off + (k + 1) = omega arith in
      let e2 : off + k + 2 ≡ off + (k + 2) = omega arith in
      let e3 : off + k + 3 ≡ off + (k + 3) = omega arith in
      simp (e1, e2, e3, at_middle k (omega arith), at_middle (k + 1) (omega arith), at_middle (k + 2) (omega arith), at_middle (k + 3) (omega arith))

-- what came of a part that was lent: the list with that part anew
pub lend : (off n : ℕ) (s ys : List ℕ) → take off s ++ (ys ++ drop (off + n - off) (drop off s)) ≡ take off s ++ (ys ++ drop (off + n) s)
lend off n s ys = simp (add-sub_cancel_left, drop-drop)

-- ---- numbers of bytes are small

abbrev pub Bytes : List ℕ → Type 0
Bytes s = (k : ℕ) → get_or s k 0 < 256

pub le16_small : (s : List ℕ) → Bytes s → (k : ℕ) → le16 s k < 65536
unfolding le16
le16_small s b k = omega (arith, b k, b (k + 1))

pub le32_small : (s : List ℕ) → Bytes s → (k : ℕ) → le32 s k < 4294967296
unfolding le32
le32_small s b k = omega (arith, b k, b (k + 1), b (k + 2), b (k + 3))
