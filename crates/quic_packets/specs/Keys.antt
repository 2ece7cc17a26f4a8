-- The packet protection keys and header protection keys that contracts speak of, and those of a secret.
use Rattle.std.specs.Prelude.{ℕ, List}
use Rattle.aead_ciphers.specs.declared.aead.algorithm.Algorithm.{Algorithm}
use Rattle.aead_ciphers.specs.HeaderProtection.{HeaderKey}
use Rattle.key_derivation.specs.Quic.{QuicSecretState, quic_header_key, quic_iv, quic_key}
use Rattle.key_derivation.specs.declared.suite.Suite.{Suite}
use Rattle.quic_packets.specs.Suite.{algorithm, header_algorithm}

-- a packet protection key: its algorithm, its bytes and its IV (RFC 9001 section 5.1)
pub record PacketKey : Type 0 where
  pub algorithm : Algorithm
  pub bytes : List ℕ
  pub iv : List ℕ

-- a packet key and a header key of a suite, by their bytes
abbrev pub packet_key : Suite → (key iv : List ℕ) → PacketKey
packet_key suite key iv = record { algorithm = algorithm suite; bytes = key; iv = iv }

abbrev pub header_key : Suite → List ℕ → HeaderKey
header_key suite bytes = record { algorithm = header_algorithm suite; bytes = bytes }

-- the packet key and the header key of a secret (RFC 9001 section 5.1)
unfoldable pub secret_key : QuicSecretState → PacketKey
secret_key s = packet_key s.secret.suite (quic_key s) (quic_iv s)

unfoldable pub secret_header_key : QuicSecretState → HeaderKey
secret_header_key s = header_key s.secret.suite (quic_header_key s)
