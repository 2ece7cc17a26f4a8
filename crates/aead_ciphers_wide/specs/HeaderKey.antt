-- What a contract sees of a `HeaderProtectionKey`: the same as of one of `aead_ciphers`.
use Rattle.std.specs.Prelude.{ℕ, length, ◌==◌, if◌then◌else◌}
use Rattle.aead_ciphers.specs.HeaderProtection.{HeaderKey}
use Rattle.aead_ciphers.specs.declared.aead.quic.Algorithm.{Algorithm}
use Rattle.aead_ciphers.specs.declared.aead.quic.TheConstants.{AES_128, AES_256, CHACHA20}
use Rattle.aead_ciphers_wide.specs.declared.aead.quic.Cipher.{Cipher}
use Rattle.aead_ciphers_wide.specs.declared.aead.quic.Cipher.TheVariants.{Aes, ChaCha20}

-- the algorithm by AES whose keys have this length in bytes
abbrev pub aes_algorithm : ℕ → Algorithm
aes_algorithm len = if len == 16 then AES_128 else AES_256

-- the algorithm and the bytes of a key
abbrev pub header_key : Cipher → HeaderKey
header_key (Aes key) = record { algorithm = aes_algorithm (length key); bytes = key }
header_key (ChaCha20 key) = record { algorithm = CHACHA20; bytes = key }
