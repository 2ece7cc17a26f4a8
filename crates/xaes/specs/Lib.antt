pub mod Derivation
pub mod Expanded
pub mod Xaes
