-- The bytes of a row's record that an update, a warm start, a solve and a whole run assign, and what document 01 says of all others. Assumes nothing.
pub mod Assigned
pub mod Stays
