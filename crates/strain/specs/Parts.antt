-- Lists of n floats, part by part: a strain has six, a 6x6 matrix 36. Definitions only. Assumes nothing.
use Rattle.std.specs.Prelude.{ℕ, List, Float}
use Rattle.loops.specs.Fill.{tabulate}
use Rattle.real.specs.Float.{◌⊕◌, ◌⊖◌, ◌⊗◌, at}

unfoldable pub add : ℕ → List Float → List Float → List Float
add n a b = tabulate n (λ i. at a i ⊕ at b i)

unfoldable pub sub : ℕ → List Float → List Float → List Float
sub n a b = tabulate n (λ i. at a i ⊖ at b i)

unfoldable pub component_mul : ℕ → List Float → List Float → List Float
component_mul n a b = tabulate n (λ i. at a i ⊗ at b i)

unfoldable pub scale : ℕ → List Float → Float → List Float
scale n a s = tabulate n (λ i. at a i ⊗ s)
