-- The laws of walking back. `Again` says what it and flattening are to each other.
pub mod Again
pub mod Both
pub mod Walks
pub mod Answers
pub mod Finding
pub mod Fitting
pub mod Paths
