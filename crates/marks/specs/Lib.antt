-- Marks in the tree: targets, conflicts, what is gone, the chain, rows 9, 11 and 12 of 01's "Verdicts"; and the cells by which conflicts are seen.
pub mod Marks
pub mod Faults
pub mod Cells
pub mod Pointers
