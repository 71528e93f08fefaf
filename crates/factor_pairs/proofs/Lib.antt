-- The laws of row 19: what a kind 8 is to the submodel that it names, and the pass over the records.
pub mod Pairing
