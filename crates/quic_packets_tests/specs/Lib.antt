-- The definitions that the contracts of the examples use.
pub mod FirstInitial
