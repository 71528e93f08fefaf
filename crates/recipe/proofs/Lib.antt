-- The laws of recipes: reading the records, definitions, reaching, and what rows 1 to 6 and 19 say where they do not apply.
pub mod Bodies
pub mod Reading
pub mod RecordLengths
pub mod Going
pub mod Definitions
pub mod Reaching
pub mod Rows
pub mod Spans
pub mod Fields
pub mod Steps
pub mod Unread
