-- The laws of the tree: its nodes and instances, and where targets lie.
pub mod Nodes
pub mod Instances
pub mod Targets
pub mod Order
pub mod Rows
pub mod Numbering
pub mod Walks
pub mod Trees
pub mod Threads
pub mod FromMain
pub mod ByRecord
pub mod Nexts
pub mod Steps
