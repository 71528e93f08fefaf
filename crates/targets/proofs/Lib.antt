-- The laws of targets by the shadow: resolving a port or mark, the targets that are kept, and rows 8 and 10.
pub mod ByHeight
pub mod Resolving
pub mod Remembering
pub mod Targeting
pub mod Misclassed
