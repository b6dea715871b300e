-- What the proofs of formrun cite. Assumes nothing.
pub mod Printed
pub mod Returns
pub mod Worked
