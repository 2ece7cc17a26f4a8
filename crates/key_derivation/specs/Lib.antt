-- The definitions that the contracts use.
pub mod Blocks
pub mod Hash
pub mod Hkdf
pub mod Hmac
pub mod HmacState
pub mod Pbkdf2
pub mod Quic
pub mod Secret
pub mod Tls
