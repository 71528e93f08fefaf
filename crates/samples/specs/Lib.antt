-- 01's samples, and more recipes and tables with the answers that 01 gives them; names walked back, recipes flattened with factors and sizes, with 02's.
pub mod Samples
pub mod Walks
pub mod Companions
pub mod Sizes
