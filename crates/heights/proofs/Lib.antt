-- The laws of the search for a definition that reaches itself, and of heights.
pub mod Along
pub mod Search
pub mod Cycles
pub mod Settling
pub mod Raising
