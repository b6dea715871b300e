-- What a record of any function of the arithmetic says, and that a function from records tells just that. Definitions only. Assumes nothing.
use Rattle.std.specs.Prelude.{◌≡◌, ℕ, Bool, List}
use Rattle.std.specs.Fn.{Shared}
use Rattle.replay.specs.Words.{words_of}
use Rattle.replay.specs.declared.record.Record.{Record}
use Rattle.replay_arith.specs.OfReal.{of_real}
use Rattle.replay_arith.specs.OfVector.{of_vector}
use Rattle.replay_arith.specs.OfMatrix.{of_matrix}
use Rattle.replay_arith.specs.OfStrain.{of_strain}
use Rattle.replay_arith.specs.OfShape.{of_shape}
use Rattle.replay_arith.specs.declared.Function.{Function}
use Rattle.replay_arith.specs.declared.Function.TheVariants.{Real, Vector, Matrix, Strain, Shape}

abbrev pub agreed : Function → List ℕ → Bool
agreed (Real f) w = of_real f w
agreed (Vector f) w = of_vector f w
agreed (Matrix f) w = of_matrix f w
agreed (Strain f) w = of_strain f w
agreed (Shape f) w = of_shape f w

-- each answer of f at a record is the definition's at the record's words
abbrev pub Tells : {F : Type 0} → Shared F (Record × Unit {0}) Bool → F → (List ℕ → Bool) → Type 0
Tells g f agrees = (r : Record) (b : Bool) → g.post f (r, tt) b → b ≡ agrees (words_of r.bytes.now)
