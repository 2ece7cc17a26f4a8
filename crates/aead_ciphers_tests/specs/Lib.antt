pub mod BoundKey
pub mod FirstBitFlipped
