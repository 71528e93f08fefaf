-- The laws of prefixes and flat names: their lengths, that no two elements of the tree have one, and what writes them.
pub mod Fewest
pub mod Apart
pub mod OneName
pub mod Lengths
pub mod Puts
pub mod Underscores
pub mod Looking
pub mod Counter
pub mod Filling
