-- The scalar row. Assumes nothing.
pub mod Row
pub mod Laws
pub mod Worked
