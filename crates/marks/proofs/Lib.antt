-- The laws of marks: targets in the tree, the chain's five steps, what survives, and what row 9 says where it does not apply.
pub mod Marks
pub mod Chain
pub mod Conflicts
pub mod Survivors
pub mod IsGone
pub mod Cells
pub mod Stamps
pub mod Relations
pub mod Records
pub mod Threads
pub mod Following
pub mod Passing
pub mod Pass
pub mod Turn
