-- Laws of answers and of loops that later crates cite. Assumes nothing.
pub mod Rest
pub mod Firsts
pub mod ByKind
pub mod Runs
pub mod Finites
pub mod Shapes
pub mod Values
