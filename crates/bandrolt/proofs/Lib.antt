-- The laws of the printing program.
pub mod Texts
pub mod Decimals
pub mod Rows
pub mod Lines
pub mod Lengths
pub mod Reading
pub mod Output
