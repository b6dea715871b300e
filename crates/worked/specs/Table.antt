-- WORKED AT THE PRESS: the worked examples of the arithmetic, as one table: the frame's head, the root, the distance row, `inv`, the eigenvalues, the energy and two rows that share a point. Assumes nothing.
use Rattle.std.specs.Prelude.{ℕ, List, [], ◌∷◌, ◌++◌, get_or, Float}
use Rattle.std.specs.Float.Ieee.{neg}
use Rattle.loops.specs.Worked.{Row, ◌gives◌}
use Rattle.root.specs.Worked as root
use Rattle.real.specs.Worked as real
use Rattle.real.specs.Float.{f½, f¼}
use Rattle.linalg.specs.Worked as linalg
use Rattle.energy.specs.Worked as neo
use Rattle.little_endian.specs.Bytes.{f32_at}
use Rattle.records.specs.Layout as at
use Rattle.records.specs.Answers.{refused, accepted}
use Rattle.frame.specs.Frames.{points, rows}
use Rattle.frame.specs.Check.{check_of}
use Rattle.stored.specs.Run.{leaves}
use Rattle.worked.specs.Sheets.{head_of, stretched, sharing}

-- the impulse of a frame's first row, and the velocities along x of its first two points, after the run
abbrev pub ends : List ℕ → List Float
ends s =
    f32_at (get_or (rows (leaves s)) 0 []) at.scalar_impulse
    ∷ f32_at (get_or (points (leaves s)) 0 []) at.point_velocity
    ∷ f32_at (get_or (points (leaves s)) 1 []) at.point_velocity
    ∷ []

-- the empty frame: 1 at 0. A head with N = R = 0, 26 bytes: 0, unaltered; one byte more: 8 at 26
abbrev pub heads : List Row
heads =
    (check_of [] gives refused 1 0)
    ∷ (check_of (head_of 0 0 0) gives accepted)
    ∷ (leaves (head_of 0 0 0) gives head_of 0 0 0)
    ∷ (check_of (head_of 0 0 0 ++ (0 ∷ [])) gives refused 8 26)
    ∷ []

-- the distance row, run whole: points (0, 0, 0) and (2, 0, 0), infinite bounds; the upper bound 0.25; both points at the origin
abbrev pub distances : List Row
distances =
    (check_of (stretched 0x40000000 0x7f800000) gives accepted)
    ∷ (ends (stretched 0x40000000 0x7f800000) gives (f½ ∷ f½ ∷ neg f½ ∷ []))
    ∷ (ends (stretched 0x40000000 0x3e800000) gives (f¼ ∷ f¼ ∷ neg f¼ ∷ []))
    ∷ (ends (stretched 0 0x7f800000) gives (neg f½ ∷ neg f½ ∷ f½ ∷ []))
    ∷ []

-- two overflow rows that share point 0: accepted; both of colour 0: 9 at the second row's start, 26 + 3 * 30 + 182
abbrev pub clashing : List Row
clashing = (check_of (sharing 65535) gives accepted) ∷ (check_of (sharing 0) gives refused 9 298) ∷ []

abbrev pub table : List Row
table = heads ++ (root.worked ++ (distances ++ (real.worked ++ (linalg.worked ++ (neo.worked ++ clashing)))))
