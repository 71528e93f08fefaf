-- What the promises of the index of names cite.
pub mod Hash
pub mod Index
pub mod Positions
pub mod Runs
pub mod Merging
