-- One record of a frame: where its fields lie, what is due, and which tests it has to pass. Assumes nothing.
pub mod Layout
pub mod Answers
pub mod Fields
pub mod Records
pub mod Kinds
pub mod Outcomes
pub mod AllFinite
pub mod Text
