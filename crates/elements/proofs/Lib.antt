-- The laws of the elements by their numbers: the columns filled one after the other, and row 11.
pub mod Elements
pub mod Gone
pub mod Listing
pub mod Steps
pub mod StepTable
pub mod Lost
