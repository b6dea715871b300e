-- The records of the functions of the crate `vector` on matrices and quaternions: the answer to a record's first words stands after them. Definitions only. Assumes nothing.
use Rattle.std.specs.Prelude.{ℕ, Bool, List, [], ◌∷◌}
use Rattle.vector.specs.Matrix.{mul_vec, mul_mat, add_mat, sub_mat, scale_mat, transpose, determinant}
use Rattle.vector.specs.Quaternion.{product, normalise, to_matrix, from_axis_angle}
use Rattle.replay.specs.Words.{float, vec3, quat, mat3, float_is, vec3_is, quat_is, mat3_is}
use Rattle.replay.specs.Tallies.{File}
use Rattle.replay_arith.specs.declared.of_matrix.Matrix.{Matrix}
use Rattle.replay_arith.specs.declared.of_matrix.Matrix.TheVariants.{MulVec, MulMat, AddMat, SubMat, ScaleMat, Transpose, Determinant, Product, Normalise, ToMatrix, FromAxisAngle}

abbrev pub of_matrix : Matrix → List ℕ → Bool
of_matrix MulVec w = vec3_is w 12 (mul_vec (mat3 w 0) (vec3 w 9))
of_matrix MulMat w = mat3_is w 18 (mul_mat (mat3 w 0) (mat3 w 9))
of_matrix AddMat w = mat3_is w 18 (add_mat (mat3 w 0) (mat3 w 9))
of_matrix SubMat w = mat3_is w 18 (sub_mat (mat3 w 0) (mat3 w 9))
of_matrix ScaleMat w = mat3_is w 10 (scale_mat (mat3 w 0) (float w 9))
of_matrix Transpose w = mat3_is w 9 (transpose (mat3 w 0))
of_matrix Determinant w = float_is w 9 (determinant (mat3 w 0))
of_matrix Product w = quat_is w 8 (product (quat w 0) (quat w 4))
of_matrix Normalise w = quat_is w 4 (normalise (quat w 0))
of_matrix ToMatrix w = mat3_is w 4 (to_matrix (quat w 0))
of_matrix FromAxisAngle w = quat_is w 4 (from_axis_angle (vec3 w 0) (float w 3))

-- each with the words of its records
abbrev pub files : List File
files =
    record { agrees = of_matrix MulVec; size = 15 }
    ∷ record { agrees = of_matrix MulMat; size = 27 }
    ∷ record { agrees = of_matrix AddMat; size = 27 }
    ∷ record { agrees = of_matrix SubMat; size = 27 }
    ∷ record { agrees = of_matrix ScaleMat; size = 19 }
    ∷ record { agrees = of_matrix Transpose; size = 18 }
    ∷ record { agrees = of_matrix Determinant; size = 10 }
    ∷ record { agrees = of_matrix Product; size = 12 }
    ∷ record { agrees = of_matrix Normalise; size = 8 }
    ∷ record { agrees = of_matrix ToMatrix; size = 13 }
    ∷ record { agrees = of_matrix FromAxisAngle; size = 8 }
    ∷ []
