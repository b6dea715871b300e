-- A row among points whose velocities are set apart. Definitions only. Assumes nothing.
use Rattle.std.specs.Prelude.{◌≡◌, ℕ, List, length}
use Rattle.records.specs.Records.{record_at}
use Rattle.stored.specs.Phases.{names_at}
use Rattle.points.specs.Apart.{moved}
use Rattle.vector.specs.declared.Vec3.{Vec3}
use Rattle.stored.specs.Points.{Points}
use Rattle.sweep.specs.Laid.{Standing, Stepped}
use Rattle.sweep.specs.declared.Row.{Row}

-- the frame that s and the velocities v stand for
abbrev pub joined : List Vec3 → List ℕ → List ℕ
joined v s = moved (length v) v s

-- the row r stands in it, with the names that its record has
abbrev pub Stood : Row → List Vec3 → List ℕ → Type 0
Stood r v s = Standing (length v) r.off r.len (joined v s) × (r.names ≡ names_at (record_at s r.off))

-- s and v are made s' and v' by the step f of the row of len bytes at off
abbrev pub Moves : (List ℕ → Points → List ℕ × Points) → ℕ → ℕ → List ℕ → List Vec3 → List ℕ → List Vec3 → Type 0
Moves f off len s v s' v' = Stepped f (length v) off len (joined v s) (joined v' s')
