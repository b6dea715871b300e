-- The error of a scalar row and its gradients. Assumes nothing.
pub mod Dihedral
pub mod Gradients
pub mod Kind
pub mod Laws
