-- The laws of the index of names, for this floor and those above.
pub mod Sorted
pub mod Runs
pub mod Positions
pub mod Finds
pub mod Hashing
pub mod Merging
