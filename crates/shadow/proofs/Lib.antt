-- The theory of the shadow: its cells, and what they name; what a pass over the records leaves of them, the pass that numbers the records, and the next submodel behind one.
pub mod Cells
pub mod Links
pub mod Columns
pub mod Counting
pub mod Numbering
pub mod Clearing
pub mod Submodels
