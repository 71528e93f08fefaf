-- Flat names: prefixes of submodels, and of instances, and the names of elements behind them.
pub mod Prefixes
pub mod Underscores
pub mod Rows
