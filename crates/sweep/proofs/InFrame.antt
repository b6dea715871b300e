-- The record of a row as a part of its frame: what the frame is after it was lent and came back. Assumes nothing.
use Rattle.std.proofs.Common.{◌≡◌, sym, ap, ◌∙◌, subst, ℕ, ◌+◌, ◌-◌, ◌≤◌, List, ◌++◌, length, take, drop, length-append, take-append-drop}
use Rattle.std.proofs.Common.{drop-drop}
use Rattle.std.proofs.Math.Nat.{add-sub_cancel_left}
use Rattle.little_endian.specs.Bytes.{le16}
use Rattle.records.specs.Records.{record_length, record_at}
use Rattle.floats.specs.Written.{AllWritten}
use Rattle.row.specs.Widths.{row_length, Whole}

-- a whole record stands at off and ends at e, with room for the fields of its kind, and its floats are as put_f32 writes them
pub record Stands (off e : ℕ) (s : List ℕ) : Type 0 where
  pub end : e ≡ off + record_length s off
  pub inside : e ≤ length s
  pub wide : row_length (le16 (record_at s off) 4) ≤ length (record_at s off)
  pub written : AllWritten (record_at s off)

-- s with that record made anew by f
abbrev pub on_record : ℕ → (List ℕ → List ℕ) → List ℕ → List ℕ
on_record off f s = take off s ++ (f (record_at s off) ++ drop (off + record_length s off) s)

module _ {off e : ℕ} {s : List ℕ} (w : Stands off e s) where
  size : e - off ≡ record_length s off
  size = ap (λ (m : ℕ). m - off) w.end ∙ add-sub_cancel_left off (record_length s off)

  -- the part that is lent
  abbrev lent : List ℕ
  lent = take (e - off) (drop off s)

  pub lent_is : lent ≡ record_at s off
  lent_is = ap (λ (m : ℕ). take m (drop off s)) size

  pub lent_whole : Whole lent
  lent_whole = subst Whole (sym lent_is) (record { wide = w.wide; written = w.written })

  rest : drop (e - off) (drop off s) ≡ drop (off + record_length s off) s
  rest = ap (λ (m : ℕ). drop m (drop off s)) size ∙ simp drop-drop

  -- lent and come back as ys
  module _ (f : List ℕ → List ℕ) {ys : List ℕ} (h : ys ≡ f lent) where
    pub put_back : take off s ++ (ys ++ drop (e - off) (drop off s)) ≡ on_record off f s
    put_back = λ i. take off s ++ ((h ∙ ap f lent_is) i ++ rest i)

    pub written_back : AllWritten ys → AllWritten (f (record_at s off))
    written_back k = subst AllWritten (h ∙ ap f lent_is) k

  pub lent_long : (ys : List ℕ) → length ys ≡ length lent → length (take off s ++ (ys ++ drop (e - off) (drop off s))) ≡ length s
  lent_long ys h =
      let D = drop (e - off) (drop off s) in
      length-append (take off s) (ys ++ D)
      ∙ ap (length (take off s) +◌) (length-append ys D ∙ ap (λ (m : ℕ). m + length D) h ∙ sym (length-append lent D))
      ∙ sym (length-append (take off s) (lent ++ D))
      ∙ ap (λ (l : List ℕ). length (take off s ++ l)) (take-append-drop (e - off) (drop off s))
      ∙ ap length (take-append-drop off s)
