-- What the laws say of a packet that is sealed and opened.
use Rattle.std.specs.Prelude.{◌≡◌, ℕ, ◌-◌, true, List, length, take}
use Rattle.aead_ciphers.specs.Counting.{xored_nonce}
use Rattle.aead_ciphers.specs.Gcm.{tag_len}
use Rattle.aead_ciphers.specs.Packet.{PacketFits, OpenedPacket}
use Rattle.quic_packets.specs.Keys.{PacketKey}
use Rattle.quic_packets.specs.Packet.{IsGenuine}

-- A sealed packet opens to this packet under a key and a number: it is accepted, and its header and its payload are restored.
pub record OpensTo (key : PacketKey) (number header_len : ℕ) (sealed packet : List ℕ) : Type 0 where
  pub fits : PacketFits header_len (length sealed)
  pub genuine : IsGenuine key.bytes (xored_nonce key.iv number) header_len sealed
  pub comes_back : (opened : List ℕ) → OpenedPacket key.bytes (xored_nonce key.iv number) header_len sealed true opened
      → take (length packet - tag_len) opened ≡ take (length packet - tag_len) packet
