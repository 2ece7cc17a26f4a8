-- The definitions that the contracts of the calls from C need, besides those of the libraries below.
pub mod AesKey
pub mod HeaderKey
pub mod NumberedKey
pub mod TrafficKey
pub mod Version
pub mod XaesKey
