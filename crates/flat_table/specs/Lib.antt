-- What the table check's promises cite. It knows nothing of recipes.
pub mod Classes
pub mod Table
pub mod Rows
pub mod InTable
