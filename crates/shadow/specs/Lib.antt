-- The shadow of a recipe: one table that has thirteen cells for each record, and what each cell means; the submodels of a definition in their order.
pub mod Shadow
pub mod Columns
pub mod Submodels
