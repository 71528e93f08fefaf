-- The laws of composing: what is known where rows 1 to 3 do not apply, row 7 by the walk's answer, and the columns of the elements from pass to pass.
pub mod Judging
pub mod Columns
