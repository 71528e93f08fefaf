-- What is promised of the size of a recipe's table, and the name fields that the statement about the longest name speaks of.
pub mod Size
pub mod NameFields
