-- The index of a recipe's records by their names: what row 4 and the look-ups are found with.
pub mod Entries
pub mod Indexed
