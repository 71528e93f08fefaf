-- The samples hold of the definitions, by computation.
pub mod Open
pub mod Starred
pub mod Walks
pub mod Companions
pub mod Sizes
