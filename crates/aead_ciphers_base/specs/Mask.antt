-- The header protection masks of QUIC (RFC 9001).
use Rattle.std.specs.Prelude.{ℕ, List, take, drop}
use Rattle.std.specs.Int.{w32, from_le_bytes}
use Rattle.aead_ciphers_base.specs.Aes.{aes}
use Rattle.aead_ciphers_base.specs.ChaCha20.{chacha20_block}

-- the first five bytes of the encrypted sample (sections 5.4.1 and 5.4.3)
unfoldable pub aes_mask : List ℕ → List ℕ → List ℕ
aes_mask key sample = take 5 (aes key sample)

-- the first five bytes of the block whose counter is the first four bytes of the sample, in little-endian order, and
-- whose nonce is the other twelve bytes (section 5.4.4)
unfoldable pub chacha_mask : List ℕ → List ℕ → List ℕ
chacha_mask key sample =
    take 5 (chacha20_block key (from_le_bytes w32 (take 4 sample)) (drop 4 sample))
