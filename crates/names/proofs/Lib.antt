-- The laws about name fields and about the list functions of specs/, for this floor and those above.
pub mod Tests
pub mod Lists
pub mod ListOrder
pub mod Scans
pub mod Tables
pub mod Orders
pub mod Runs
pub mod Names
pub mod Judging
pub mod Stores
