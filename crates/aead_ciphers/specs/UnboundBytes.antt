-- What a contract sees of the bytes in an `UnboundKey`.
use Rattle.std.specs.Prelude.{ℕ, List}
use Rattle.aead_ciphers.specs.declared.aead.unbound_key.UnboundBytes.{UnboundBytes}
use Rattle.aead_ciphers.specs.declared.aead.unbound_key.UnboundBytes.TheVariants.{AES_128, AES_256}

abbrev pub unbound_bytes : UnboundBytes → List ℕ
unbound_bytes (AES_128 b) = b
unbound_bytes (AES_256 b) = b
