-- The targets of ports and marks as they are found, and what is known of the tree then.
pub mod Resolve
pub mod Targeted
pub mod Trees
