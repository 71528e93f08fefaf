-- Which kind 8 gives which submodel its factors: what the pass of row 19 knows on its way.
pub mod Pairing
