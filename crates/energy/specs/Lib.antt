-- The neo-Hookean energy. Assumes nothing.
pub mod Hessian
pub mod Worked
