-- The elements of the tree as rows: what each column means, and how the columns are filled.
pub mod Steps
pub mod Columns
pub mod Gone
pub mod Listing
