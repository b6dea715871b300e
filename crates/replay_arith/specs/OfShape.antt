-- The records of the functions of the crates `linalg` and `shape`: the answer to a record's first words stands after them. Definitions only. Assumes nothing.
use Rattle.std.specs.Prelude.{ℕ, ◌+◌, Bool, ◌&&◌, List, [], ◌∷◌}
use Rattle.linalg.specs.Eigen.{symmetric_eigen}
use Rattle.linalg.specs.Products.{cofactor, outer_product}
use Rattle.linalg.specs.declared.Eigen.{Eigen}
use Rattle.shape.specs.Rotation.{extract_rotation}
use Rattle.shape.specs.Cell.{cell_volume, cell_volume_gradients, cell_edge_matrix}
use Rattle.replay.specs.Words.{vec3, quat, mat3, four, float_is, vec3_is, quat_is, mat3_is, four_are}
use Rattle.replay.specs.Tallies.{File}
use Rattle.replay_arith.specs.declared.of_shape.Shape.{Shape}
use Rattle.replay_arith.specs.declared.of_shape.Shape.TheVariants.{SymmetricEigen, Cofactor, OuterProduct, ExtractRotation, CellVolume, CellVolumeGradients, CellEdgeMatrix}

abbrev pub eigen_is : List ℕ → ℕ → Eigen → Bool
eigen_is w k r = vec3_is w k r.values && mat3_is w (k + 3) r.vectors

abbrev pub of_shape : Shape → List ℕ → Bool
of_shape SymmetricEigen w = eigen_is w 9 (symmetric_eigen (mat3 w 0))
of_shape Cofactor w = mat3_is w 9 (cofactor (mat3 w 0))
of_shape OuterProduct w = mat3_is w 6 (outer_product (vec3 w 0) (vec3 w 3))
of_shape ExtractRotation w = quat_is w 13 (extract_rotation (mat3 w 0) (quat w 9))
of_shape CellVolume w = float_is w 12 (cell_volume (four w 0))
of_shape CellVolumeGradients w = four_are w 12 (cell_volume_gradients (four w 0))
of_shape CellEdgeMatrix w = mat3_is w 12 (cell_edge_matrix (four w 0))

-- each with the words of its records
abbrev pub files : List File
files =
    record { agrees = of_shape SymmetricEigen; size = 21 }
    ∷ record { agrees = of_shape Cofactor; size = 18 }
    ∷ record { agrees = of_shape OuterProduct; size = 15 }
    ∷ record { agrees = of_shape ExtractRotation; size = 17 }
    ∷ record { agrees = of_shape CellVolume; size = 13 }
    ∷ record { agrees = of_shape CellVolumeGradients; size = 24 }
    ∷ record { agrees = of_shape CellEdgeMatrix; size = 21 }
    ∷ []
