-- The faults of a record's fields, to be read beside document 01's table, the numbers 3 to 7: which field, and what its bytes hold.
-- b is the record's bytes, k counts from its start, c is the colour of the row before. Definitions only. Assumes nothing.
use Rattle.std.specs.Prelude.{ℕ, ◌+◌, ◌*◌, ◌≤◌, ◌<◌, ◌≡◌, true, false, ◌⊎◌, List, length}
use Rattle.std.specs.Float.{binary32}
use Rattle.std.specs.Float.Ieee.{of_bits, lt, is_nan}
use Rattle.little_endian.specs.Bytes.{le16, le32, f32_at, is_finite}
use Rattle.records.specs.declared.Due.{Due}
use Rattle.records.specs.Layout.{kind_at, head_points, head_rows, head_mode, head_resweeps, head_warm, head_end, point_position, point_end}
use Rattle.records.specs.Layout.{row_colour, row_strained, row_pos, scalar_type, scalar_count, scalar_lower, scalar_upper, elastic_inverted}
use Rattle.records.specs.Layout.{elastic_fourth, elastic_strain_cap, elastic_strain, coro_vol_cap, coro_end, neo_end}
use Rattle.records.specs.Records.{is_due, record_length, record_at}
use Rattle.acceptance.specs.Given.{Reached}

-- the record's kind: 1 head, 2 point, 3 scalar, 4 corotational, 5 neo-Hookean
abbrev pub Is : List ℕ → ℕ → Type 0
Is b kind = le16 b kind_at ≡ kind

abbrev pub IsElastic : List ℕ → Type 0
IsElastic b = Is b 4 ⊎ Is b 5

abbrev pub IsRow : List ℕ → Type 0
IsRow b = Is b 3 ⊎ IsElastic b

-- k is where one of the floats starts that lie one after another from byte a up to byte e
pub record Among (a e k : ℕ) : Type 0 where
  pub i : ℕ
  pub at : k ≡ a + 4 * i
  pub inside : k < e

-- 3: points or rows above 4,096; resweeps above 64; scalar count above 4
pub data TooMany (b : List ℕ) (c : ℕ) : ℕ → Type 0 where
  points : Is b 1 → 4096 < le32 b head_points → TooMany b c head_points
  rows : Is b 1 → 4096 < le32 b head_rows → TooMany b c head_rows
  resweeps : Is b 1 → 64 < le16 b head_resweeps → TooMany b c head_resweeps
  count : Is b 3 → 4 < le16 b scalar_count → TooMany b c scalar_count

-- 4: a code outside its values: mode 0 to 3; type 0 to 2; strained, inverted and volumetric 0 and 1; the u16 of kind 5 that is 0
pub data BadCode (b : List ℕ) (c : ℕ) : ℕ → Type 0 where
  mode : Is b 1 → 3 < le16 b head_mode → BadCode b c head_mode
  strained : IsRow b → 1 < le16 b row_strained → BadCode b c row_strained
  type : Is b 3 → 2 < le16 b scalar_type → BadCode b c scalar_type
  inverted : IsElastic b → 1 < le16 b elastic_inverted → BadCode b c elastic_inverted
  volumetric : Is b 4 → 1 < le16 b elastic_fourth → BadCode b c elastic_fourth
  zero_code : Is b 5 → 0 < le16 b elastic_fourth → BadCode b c elastic_fourth

-- a float of the record starts at k, a scalar row's two bounds apart
pub data FloatAt (b : List ℕ) : ℕ → Type 0 where
  of_head : {k : ℕ} → Is b 1 → Among head_warm head_end k → FloatAt b k
  of_point : {k : ℕ} → Is b 2 → Among point_position point_end k → FloatAt b k
  of_scalar : {k : ℕ} → Is b 3 → Among row_pos scalar_lower k → FloatAt b k
  of_corotational : {k : ℕ} → Is b 4 → Among row_pos coro_end k → FloatAt b k
  of_neo_hookean : {k : ℕ} → Is b 5 → Among row_pos neo_end k → FloatAt b k

-- 5: a float that is not finite; an impulse bound may be infinite but no NaN
pub data NotFinite (b : List ℕ) (c : ℕ) : ℕ → Type 0 where
  float : {k : ℕ} → FloatAt b k → is_finite (f32_at b k) ≡ false → NotFinite b c k
  lower : Is b 3 → is_nan (f32_at b scalar_lower) ≡ true → NotFinite b c scalar_lower
  upper : Is b 3 → is_nan (f32_at b scalar_upper) ≡ true → NotFinite b c scalar_upper

-- 6: lower bound above upper, at the lower; a strain or volume cap below 0 (minus zero is not below it)
pub data Disordered (b : List ℕ) (c : ℕ) : ℕ → Type 0 where
  bounds : Is b 3 → lt (f32_at b scalar_upper) (f32_at b scalar_lower) ≡ true → Disordered b c scalar_lower
  strain_cap : {k : ℕ} → IsElastic b → Among elastic_strain_cap elastic_strain k → lt (f32_at b k) (of_bits binary32 0) ≡ true → Disordered b c k
  vol_cap : Is b 4 → lt (f32_at b coro_vol_cap) (of_bits binary32 0) ≡ true → Disordered b c coro_vol_cap

-- 7: colour less than the previous row's (c is 0 for the first row)
pub data ColourFalls (b : List ℕ) (c : ℕ) : ℕ → Type 0 where
  colour : IsRow b → le16 b row_colour < c → ColourFalls b c row_colour

-- the fault of number n at byte k
pub data Fault (b : List ℕ) (c : ℕ) : ℕ → ℕ → Type 0 where
  fault_3 : {k : ℕ} → TooMany b c k → Fault b c 3 k
  fault_4 : {k : ℕ} → BadCode b c k → Fault b c 4 k
  fault_5 : {k : ℕ} → NotFinite b c k → Fault b c 5 k
  fault_6 : {k : ℕ} → Disordered b c k → Fault b c 6 k
  fault_7 : {k : ℕ} → ColourFalls b c k → Fault b c 7 k

-- NUMBER n AT PLACE p: check gets to the record at off, after a row of colour `before`; the record is due and whole; its byte k, which is p
-- in the frame, is in the case of number n, no byte in that of a lower number ("3 to 7 in turn"), no earlier byte in this one ("each at its
-- earliest place")
pub record GivenAs (n : ℕ) (Case : List ℕ → ℕ → ℕ → Type 0) (s : List ℕ) (p : ℕ) : Type 0 where
  pub due : Due
  pub off : ℕ
  pub before : ℕ
  pub reached : Reached s due off before
  pub here : is_due due (le16 s (off + kind_at)) (le32 s off) ≡ true
  pub whole : off + record_length s off ≤ length s
  pub k : ℕ
  pub place : p ≡ off + k
  pub case : Case (record_at s off) before k
  pub none_lower : (m j : ℕ) → m < n → Fault (record_at s off) before m j → ⊥
  pub none_earlier : (j : ℕ) → j < k → Case (record_at s off) before j → ⊥

abbrev pub Given3 : List ℕ → ℕ → Type 0
Given3 = GivenAs 3 TooMany

abbrev pub Given4 : List ℕ → ℕ → Type 0
Given4 = GivenAs 4 BadCode

abbrev pub Given5 : List ℕ → ℕ → Type 0
Given5 = GivenAs 5 NotFinite

abbrev pub Given6 : List ℕ → ℕ → Type 0
Given6 = GivenAs 6 Disordered

abbrev pub Given7 : List ℕ → ℕ → Type 0
Given7 = GivenAs 7 ColourFalls
