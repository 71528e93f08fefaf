-- What flattening with factors promises: the companion table, the answer and both outputs; what its writers are given; and the parts of what is stated of it.
pub mod Companion
pub mod Sites
pub mod Entries
