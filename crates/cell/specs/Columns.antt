-- The effective-mass block as the code makes it, and that it is `strain_block_from_g`: column (k, l) goes by the unit vectors of k and l and by columns k and l of G. Assumes nothing.
use Rattle.std.specs.Prelude.{◌≡◌, refl, List, [], ◌∷◌, get_or, Float}
use Rattle.real.specs.Float.{◌⊕◌, ◌⊗◌, at, f¼}
use Rattle.vector.specs.Matrix.{identity}
use Rattle.vector.specs.declared.Vec3.{Vec3}
use Rattle.vector.specs.declared.Mat3.{Mat3}
use Rattle.strain.specs.Matrix.{from_fn}
use Rattle.cell.specs.Strain.{strain_block_from_g}

-- the entry in row (i, j): δ_ik, δ_il, δ_jk and δ_jl with G_jl, G_jk, G_il and G_ik
unfoldable pub quarter : Float → Float → Float → Float → Float → Float → Float → Float → Float
quarter ik il jk jl gik gil gjk gjl = f¼ ⊗ (ik ⊗ gjl ⊕ il ⊗ gjk ⊕ jk ⊗ gil ⊕ jl ⊗ gik)

unfoldable pub block_column : Vec3 → Vec3 → Vec3 → Vec3 → List Float
block_column k gk l gl =
    quarter k.x l.x k.x l.x gk.x gl.x gk.x gl.x
    ∷ quarter k.y l.y k.y l.y gk.y gl.y gk.y gl.y
    ∷ quarter k.z l.z k.z l.z gk.z gl.z gk.z gl.z
    ∷ quarter k.x l.x k.y l.y gk.x gl.x gk.y gl.y
    ∷ quarter k.x l.x k.z l.z gk.x gl.x gk.z gl.z
    ∷ quarter k.y l.y k.z l.z gk.y gl.y gk.z gl.z
    ∷ []

-- the matrix with these six columns
unfoldable pub from_columns : List (List Float) → List Float
from_columns c = from_fn (λ i j. at (get_or c j []) i)

pub by_columns :
    (g : Mat3)
    → from_columns
    (block_column identity.x g.x identity.x g.x
    ∷ block_column identity.y g.y identity.y g.y
    ∷ block_column identity.z g.z identity.z g.z
    ∷ block_column identity.x g.x identity.y g.y
    ∷ block_column identity.x g.x identity.z g.z
    ∷ block_column identity.y g.y identity.z g.z
    ∷ [])
    ≡ strain_block_from_g g
unfolding from_columns block_column quarter identity strain_block_from_g
by_columns g = refl
