-- Rows of every kind, and what an update, a warm start and a solve do with one. Assumes nothing.
pub mod Row
pub mod Step
pub mod Local
