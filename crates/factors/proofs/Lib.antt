-- The laws of flattening with factors. `Statements` says what it is of the call.
pub mod Statements
pub mod Plain
pub mod Tables
pub mod Answers
pub mod Handed
pub mod Entries
pub mod Filtering
pub mod Sites
pub mod Paths
