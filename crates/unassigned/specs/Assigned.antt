-- WHICH BYTES OF A ROW'S RECORD EACH PHASE ASSIGNS, field by field as the Rust assigns them. Definitions only. Assumes nothing.
use Rattle.std.specs.Prelude.{ℕ, ◌+◌, ◌*◌, ◌<◌, ◌≤◌, ◌⊎◌, Bool, cond, not, is_some, List, [], ◌∷◌, ◌++◌, eqb}
use Rattle.little_endian.specs.Bytes.{le16}
use Rattle.places.specs.Places.{Holds}
use Rattle.cell.specs.Cell.{update_pose}
use Rattle.neo_hookean.specs.NeoHookean.{is_fresh}
use Rattle.records.specs.Layout as at
use Rattle.floats.specs.Fields.{floats_at}
use Rattle.stored.specs.Read.{cell_of, pose_of}

-- ---- fields: the first byte, and how many

abbrev pub Field : Type 0
Field = ℕ × ℕ

-- n floats from byte i on, and a flag
abbrev pub floats : ℕ → ℕ → List Field
floats i n = (i, 4 * n) ∷ []

abbrev pub flag : ℕ → List Field
flag i = (i, 2) ∷ []

infixr 20 ◌and◌
abbrev pub ◌and◌ : List Field → List Field → List Field
fs and gs = fs ++ gs

abbrev pub when : Bool → List Field → List Field
when t fs = cond t fs []

-- byte k is none of the n from i on, and is in none of the fields
abbrev pub Out : ℕ → ℕ → ℕ → Type 0
Out k i n = (k < i) ⊎ (i + n ≤ k)

abbrev pub Outside : ℕ → List Field → Type 0
Outside k [] = Unit
Outside k (f ∷ fs) = Out k f.0 f.1 × Outside k fs

-- ---- an update

-- the position of each place that is fetched: the id 0xFFFFFFFF, and a place past a scalar row's count, are skipped
unfoldable pub positions : Holds → List Field
positions held =
    when (is_some held.a) (floats at.row_pos 3)
    and when (is_some held.b) (floats (at.row_pos + 12) 3)
    and when (is_some held.c) (floats (at.row_pos + 24) 3)
    and when (is_some held.d) (floats (at.row_pos + 36) 3)

-- by the row's type: a distance row, 0, assigns the first two gradients only
unfoldable pub gradients : ℕ → List Field
gradients type = floats at.scalar_grad 6 and when (not (eqb type 0)) (floats (at.scalar_grad + 24) 6)

unfoldable pub scalar_update : Holds → ℕ → List Field
scalar_update held type =
    flag at.row_strained
    and floats at.scalar_inv_lhs 1
    and floats at.scalar_cfm_gain 1
    and floats at.scalar_rhs 1
    and floats at.scalar_peak_impulse 1
    and positions held
    and gradients type

-- what both elastic rows assign
unfoldable pub pose_update : Holds → List Field
pose_update held =
    flag at.row_strained
    and flag at.elastic_inverted
    and floats at.elastic_rotation 4
    and floats at.elastic_rot_mat 9
    and floats at.elastic_strain 6
    and positions held

unfoldable pub volume_update : List Field
volume_update =
    floats at.coro_grad_vol 12
    and floats at.coro_cfm_gain_vol 1
    and floats at.coro_rhs_vol 1
    and floats at.coro_b 6
    and floats at.coro_z 6
    and floats at.coro_inv_s 1

-- where the strain has moved: the stiffness and the block's inverse
unfoldable pub block_update : Bool → List Field
block_update fresh = floats at.neo_dt_grad 6 and when (not fresh) (floats at.neo_stiffness_strain 6 and floats at.neo_m 36 and floats at.elastic_inv_a 36)

-- whether a neo-Hookean row's new strain is still near the one that its stiffness was computed at
unfoldable pub is_still_fresh : Holds → List ℕ → Bool
is_still_fresh held b = is_fresh (update_pose (cell_of b) (pose_of b) held).strain (floats_at 6 b at.neo_stiffness_strain)

-- ---- a record b of any kind: 3 scalar, 4 corotational, 5 neo-Hookean

abbrev pub by_kind : List ℕ → List Field → List Field → List Field → List Field
by_kind b x y z = cond (eqb (le16 b at.kind_at) 3) x (cond (eqb (le16 b at.kind_at) 4) y z)

unfoldable pub assigned_in_update : Holds → List ℕ → List Field
assigned_in_update held b =
    by_kind b
    (scalar_update held (le16 b at.scalar_type))
    (pose_update held and volume_update)
    (pose_update held and block_update (is_still_fresh held b))

-- a warm start: the impulses
unfoldable pub assigned_in_warm : List ℕ → List Field
assigned_in_warm b =
    by_kind b
    (floats at.scalar_impulse 1)
    (floats at.elastic_strain_impulse 6 and floats at.elastic_vol_impulse 1)
    (floats at.elastic_strain_impulse 6 and floats at.elastic_vol_impulse 1)

-- a solve: the impulses, and of a neo-Hookean row those of the strain alone
unfoldable pub assigned_in_solve : List ℕ → List Field
assigned_in_solve b =
    by_kind b
    (floats at.scalar_impulse 1)
    (floats at.elastic_strain_impulse 6 and floats at.elastic_vol_impulse 1)
    (floats at.elastic_strain_impulse 6)
