-- What the promises of the printing program's functions cite beside the composer's definitions.
pub mod Text
pub mod Reading
