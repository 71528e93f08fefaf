-- What composing promises: the order of judging, and the rooms that it fills.
pub mod Rows
pub mod Rooms
pub mod Composed
