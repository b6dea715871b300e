-- A float put: it is as it is written, and the others stay. Assumes nothing.
use Rattle.std.proofs.Common.{rules, sym, subst}
use Rattle.floats.specs.Written.{AllWritten}
use Rattle.floats.proofs.Written.{put_stays}
use Rattle.floats.proofs.F32Field.put.Goals as goal

pub returns : goal.returns
returns c = (
  c.put_f32.ensures,
  λ g t w. subst AllWritten (sym c.put_f32.ensures) (put_stays _ _ _ (search rules) c.requires g t w),
)
