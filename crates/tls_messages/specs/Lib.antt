-- The definitions that the contracts use.
pub mod Messages
pub mod Steps
