-- Demand 3 of document 01: relisted frames, and what two runs leave. Assumes nothing.
pub mod Relisted
pub mod Demand3
pub mod Worked
