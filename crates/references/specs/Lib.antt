-- The ends of chains from references, and row 12 by the numbers of its elements.
pub mod Ends
pub mod References
