-- The laws of the index: records by number, their keys, row 4, and what a look-up finds.
pub mod Places
pub mod Entering
pub mod Keys
pub mod Repeats
pub mod Lookups
