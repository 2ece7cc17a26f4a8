-- The definitions that the contracts use.
pub mod Alerts
pub mod Appending
pub mod Connection
pub mod Content
pub mod EarlyData
pub mod Handling
pub mod Joined
pub mod Keys
pub mod Record
pub mod Refusals
pub mod Runs
pub mod Steps
pub mod Stream
