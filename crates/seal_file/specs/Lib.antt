pub mod KeyText
pub mod Name
pub mod Oddity
