-- 01's recipes: records, definitions, which definition reaches which, and rows 1 to 6 and 19 of "Verdicts".
pub mod Records
pub mod Definitions
pub mod Reaching
pub mod Reading
pub mod Fields
pub mod Steps
