-- The laws of factors in the tree: the end of a factor's chain, and row 20's pass.
pub mod FactorEnds
pub mod FactorFaults
