-- The laws of references: a chain followed by the column of steps, and row 12's pass.
pub mod Ends
pub mod References
pub mod Misreferred
