-- The laws behind row 5 and what each record names.
pub mod Fields
pub mod Linking
pub mod Looking
pub mod Targets
