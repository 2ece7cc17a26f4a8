pub mod Derivation
pub mod Format
pub mod Opening
pub mod Passphrase
pub mod Reader
pub mod Refusals
pub mod Streams
