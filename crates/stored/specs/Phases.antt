-- One row's update, warm start and solve on the bytes of its record alone: what its places hold goes in; the record anew and what each place is to lose come out. The functions of the code are proved equal to these. The rules of the run are made without them (Points.antt), and PhaseLaws.antt has that the two agree. A reader of the rules does not need this file. Definitions only. Assumes nothing.
use Rattle.std.specs.Prelude.{ℕ, Bool, cond, List, eqb, Float}
use Rattle.little_endian.specs.Bytes.{le16}
use Rattle.vector.specs.declared.Vec3.{Vec3}
use Rattle.vector.specs.declared.Four.{Four}
use Rattle.places.specs.Places.{Holds, Ids}
use Rattle.records.specs.Layout as at
use Rattle.rows.specs.Row.{counted}
use Rattle.rows.specs.Step.{update_of, strained_of, warmstart_of, solve_of}
use Rattle.floats.specs.Fields.{ids_at}
use Rattle.stored.specs.Read.{constraint_of}
use Rattle.stored.specs.Put.{put_flag, put_constraint, warm_constraint, solve_constraint}

-- ---- the ids that a row names: a scalar row its first `count`, an elastic row all four. A place that is not named counts as 0xFFFFFFFF

unfoldable pub counted_ids : ℕ → Ids → Ids
counted_ids k i = record { a = counted k 0 i.a; b = counted k 1 i.b; c = counted k 2 i.c; d = counted k 3 i.d }

unfoldable pub names_at : List ℕ → Ids
names_at b = cond (eqb (le16 b at.kind_at) 3) (counted_ids (le16 b at.scalar_count) (ids_at b at.row_ids)) (ids_at b at.row_ids)

-- whether the row's flag is set
unfoldable pub is_strained_at : List ℕ → Bool
is_strained_at b = eqb (le16 b at.row_strained) 1

-- ---- a row of any kind

unfoldable pub update_row : Float → Holds → List ℕ → List ℕ
update_row least held b = let k = update_of (constraint_of b) held in put_flag (put_constraint k b) at.row_strained (strained_of k least)

unfoldable pub warm_row : Float → List ℕ → List ℕ
warm_row coeff b = warm_constraint (warmstart_of (constraint_of b) coeff).state b

unfoldable pub warm_loss : Float → List ℕ → Four Vec3
warm_loss coeff b = (warmstart_of (constraint_of b) coeff).loss

unfoldable pub solve_row : Holds → List ℕ → List ℕ
solve_row vel b = solve_constraint (solve_of (constraint_of b) vel).state b

unfoldable pub solve_loss : Holds → List ℕ → Four Vec3
solve_loss vel b = (solve_of (constraint_of b) vel).loss
