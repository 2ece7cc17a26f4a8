-- The bytes of an AES key, of either length.
use Rattle.std.specs.Prelude.{ℕ, List}
use Rattle.aead_ciphers_base.specs.declared.aes.KeyBytes.{KeyBytes}
use Rattle.aead_ciphers_base.specs.declared.aes.KeyBytes.TheVariants.{AES_128, AES_256}

abbrev pub key_bytes : KeyBytes → List ℕ
key_bytes (AES_128 b) = b.now
key_bytes (AES_256 b) = b.now
