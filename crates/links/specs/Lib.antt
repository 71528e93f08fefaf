-- What a recipe's records name: what row 5 is found with.
pub mod Links
pub mod Held
