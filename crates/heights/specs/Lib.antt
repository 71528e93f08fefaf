-- What the promises about row 6 and the heights of definitions cite.
pub mod Marks
pub mod Search
pub mod Heights
