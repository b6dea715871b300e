-- Linear algebra of the soft rows. Assumes nothing.
pub mod Eigen
pub mod Steps
pub mod Products
pub mod Worked
