-- `outer_product` and `cofactor` of soft_element_linalg.rs, by columns. Definitions only. Assumes nothing.
use Rattle.vector.specs.declared.Vec3.{Vec3}
use Rattle.vector.specs.declared.Mat3.{Mat3}
use Rattle.vector.specs.Vector.{scale, cross}

-- a bᵀ
unfoldable pub outer_product : Vec3 → Vec3 → Mat3
outer_product a b = record { x = scale a b.x; y = scale a b.y; z = scale a b.z }

-- ∂det(F)/∂F
unfoldable pub cofactor : Mat3 → Mat3
cofactor f = record { x = cross f.y f.z; y = cross f.z f.x; z = cross f.x f.y }
