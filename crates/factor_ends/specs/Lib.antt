-- Where the chains from factors end, and row 20 by the numbers of its elements.
pub mod FactorEnds
pub mod FactorFaults
pub mod Recipes
