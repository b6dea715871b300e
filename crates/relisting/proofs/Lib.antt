-- What holds of accepted and relisted listings (Relist), and of the test that computes acceptance (Check). Assumes nothing.
pub mod Relist
pub mod Check
