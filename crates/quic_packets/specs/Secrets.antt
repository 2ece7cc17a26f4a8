-- Keys from a secret over key updates (RFC 9001 sections 5.1 and 6.1).
use Rattle.std.specs.Prelude.{◌≡◌, ℕ, zero, suc, ◌+◌, Some}
use Rattle.key_derivation.specs.Quic.{QuicSecretState, next_quic_secret}
use Rattle.quic_packets.specs.Keys.{PacketKey, secret_header_key, secret_key}
use Rattle.quic_packets.specs.Receiving.{Receiver, new_receiver, updated, with_next}
use Rattle.quic_packets.specs.Sending.{Sender, after_derived_update, new_sender}

-- The secret after n key updates (section 6.1).
abbrev pub secret_after : QuicSecretState → ℕ → QuicSecretState
secret_after secret zero = secret
secret_after secret (suc n) = next_quic_secret (secret_after secret n)

-- The state of a sender that is made of this secret, after any calls, and its number of key updates. A call that isn't a key
-- update leaves its keys, its secret and its version.
pub data SenderOf : QuicSecretState → Sender → ℕ → Type 0 where
  begins : (secret : QuicSecretState) (first : ℕ)
      → SenderOf secret (new_sender secret.version (secret_key secret) (secret_header_key secret) (Some secret) first) 0
  updates : (secret : QuicSecretState) (s : Sender) (n : ℕ) (held : QuicSecretState) → s.secret ≡ Some held → SenderOf secret s n
      → SenderOf secret (after_derived_update s held) (n + 1)
  others : (secret : QuicSecretState) (s t : Sender) (n : ℕ) → t.version ≡ s.version → t.key ≡ s.key
      → t.header_key ≡ s.header_key → t.secret ≡ s.secret → SenderOf secret s n → SenderOf secret t n

-- The state of a receiver that is made of this secret, after any calls, and its number of key updates. Its next key is set, and
-- becomes the current key when it opens a packet. A call that does neither leaves its keys, its secret and its version.
pub data ReceiverOf : QuicSecretState → Receiver → ℕ → Type 0 where
  begins : (secret : QuicSecretState)
      → ReceiverOf secret (new_receiver secret.version (secret_header_key secret) (secret_key secret) (Some secret)) 0
  takes_next : (secret : QuicSecretState) (r : Receiver) (n : ℕ) (held : QuicSecretState) → r.secret ≡ Some held → ReceiverOf secret r n
      → ReceiverOf secret (with_next r held) n
  updates : (secret : QuicSecretState) (r : Receiver) (n : ℕ) (key : PacketKey) (number : ℕ) → r.next ≡ Some key → ReceiverOf secret r n
      → ReceiverOf secret (updated r number (Some key)) (n + 1)
  others : (secret : QuicSecretState) (r t : Receiver) (n : ℕ) → t.version ≡ r.version → t.header ≡ r.header
      → t.current ≡ r.current → t.next ≡ r.next → t.secret ≡ r.secret → ReceiverOf secret r n → ReceiverOf secret t n
