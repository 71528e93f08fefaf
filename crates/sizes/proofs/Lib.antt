-- The laws of the size of a recipe's table. `Statements` has what it promises beside flattening.
pub mod Statements
pub mod Beside
pub mod Sizing
pub mod Longest
pub mod Exact
pub mod Asking
