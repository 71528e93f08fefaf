-- The tree of a recipe: its instances and their nodes, targets through ports, and rows 7, 8 and 10 of 01's "Verdicts".
pub mod Tree
pub mod Faults
pub mod Numbers
pub mod Walk
pub mod Planted
pub mod Steps
