-- The widths of bit planes, in bits.
use Rattle.std.specs.Prelude.{ℕ}
use Rattle.aead_ciphers_wide.specs.declared.aes.Width.{Width}
use Rattle.aead_ciphers_wide.specs.declared.aes.Width.TheVariants.{Bits128, Bits256}

-- the number of bits of a plane
abbrev pub width_bits : Width → ℕ
width_bits Bits128 = 128
width_bits Bits256 = 256
