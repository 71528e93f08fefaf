-- What the promises about name fields cite, and the list functions that every floor's definitions use.
pub mod Lists
pub mod Scans
pub mod Names
pub mod Order
pub mod Judging
