-- Packet protection (RFC 9001 section 5.3). A packet is its header, which ends with the packet number, its payload, and 16
-- bytes for the tag.
use Rattle.std.specs.Prelude.{◌≡◌, ℕ, ◌+◌, ◌-◌, ◌^◌, ◌<◌, List, length, take, drop, slice_index, slice_range}
use Rattle.std.specs.Int.{to_be_bytes, w64}
use Rattle.aead_ciphers_base.specs.Aes.{aes}
use Rattle.aead_ciphers.specs.Gcm.{gcm_tag, tag_len}
use Rattle.quic_packets.specs.Header.{number_len}

-- a packet number is below 2^62 (RFC 9000 section 12.3)
abbrev pub IsNumber : ℕ → Type 0
IsNumber number = number < 2 ^ 62

-- the last 16 bytes are the tag of the ciphertext before them, with the header as AAD
abbrev pub EndsWithTag : (key nonce header : List ℕ) → List ℕ → Type 0
EndsWithTag key nonce header body = let n = length body - tag_len in drop n body ≡ gcm_tag (aes key) nonce header (take n body)

-- the packet ends with the tag of its ciphertext, with the header as AAD
abbrev pub IsGenuine : (key nonce : List ℕ) (header_len : ℕ) → List ℕ → Type 0
IsGenuine key nonce header_len packet = EndsWithTag key nonce (take header_len packet) (drop header_len packet)

-- The packet number is the end of the header, from byte `start` up to `end`. It begins after the first byte, and is as long as
-- that byte says (RFC 9000 sections 17.2 and 17.3.1).
pub record HasNumber (start end : ℕ) (packet : List ℕ) : Type 0 where
  pub first_byte : 0 < start
  pub len : end ≡ start + number_len (slice_index packet 0)

-- the n low bytes of a number, highest first
unfoldable pub low_bytes : ℕ → ℕ → List ℕ
low_bytes n number = drop (8 - n) (to_be_bytes w64 number)

-- the header holds the low bytes of this number (RFC 9000 section 17.1)
abbrev pub CarriesNumber : (number start end : ℕ) → List ℕ → Type 0
CarriesNumber number start end packet = slice_range packet start end ≡ low_bytes (end - start) number
