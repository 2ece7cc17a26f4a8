-- The packets that a sender has sent over its life, and the packets that a receiver returns for them. The laws are stated with
-- these.
use Rattle.std.specs.Prelude.{◌≡◌, ℕ, ◌+◌, ◌-◌, ◌<◌, ◌≤◌, ◌↔◌, ◌⊎◌, if◌then◌else◌, max, min, true, nat_lt, nat_le, false, List, [], ◌∷◌, length, take, slice_index, Option, None, Some, IsSome, Contains, Result, IsOk, IfOk, IsErrOf}
use Rattle.aead_ciphers.specs.Gcm.{tag_len}
use Rattle.aead_ciphers.specs.HeaderProtection.{HeaderKey}
use Rattle.key_derivation.specs.Quic.{QuicSecretState}
use Rattle.key_derivation.specs.declared.quic.Version.{Version}
use Rattle.quic_packets.specs.Datagram.{span}
use Rattle.quic_packets.specs.Keys.{PacketKey}
use Rattle.quic_packets.specs.Receiving.{Receiver, has_phase, new_receiver, received}
use Rattle.quic_packets.specs.Sending.{IsInTurn, IsSealable, IsSent, Sender, after_acknowledgement, after_send, after_skip, after_update, is_long, new_sender, numbered_packet}
use Rattle.quic_packets.specs.Space.{IsNew, Marks, Space, new_space}
use Rattle.quic_packets.specs.declared.receive_error.ReceiveError.{ReceiveError}
use Rattle.quic_packets.specs.declared.receive_error.ReceiveError.TheVariants.{Duplicate}
use Rattle.quic_packets.specs.declared.fixed_bit.FixedBit.{FixedBit}
use Rattle.quic_packets.specs.declared.receiver.Received.{Received}

-- A packet that was sent: its number, the position of the number, the length of the header, the packet before it was sealed,
-- and its bytes after protection (`wire`).
pub record Sent : Type 0 where
  pub number : ℕ
  pub number_at : ℕ
  pub header_len : ℕ
  pub packet : List ℕ
  pub wire : List ℕ

-- a key update of a sender: the new key, and the next packet number at the time
pub record Update : Type 0 where
  pub key : PacketKey
  pub first : ℕ

-- The packet keys of a sender: the first key, and the key updates, the last one first.
pub record Life : Type 0 where
  pub key : PacketKey
  pub updates : List Update

-- the packet key after n key updates
abbrev pub key_after : PacketKey → List Update → ℕ → PacketKey
key_after key [] n = key
key_after key (update ∷ earlier) n = if nat_lt (length earlier) n then update.key else key_after key earlier n

-- the number of key updates before the packet with this number
abbrev pub updates_before : List Update → ℕ → ℕ
updates_before [] number = 0
updates_before (update ∷ earlier) number = (if nat_le update.first number then 1 else 0) + updates_before earlier number

-- The packets that a sender has sent, the last one first, under the keys of its life. The sender is created, sends packets,
-- skips numbers and updates its keys, and learns of acknowledgments, of the confirmed handshake and of a lower limit. A call
-- that fails changes nothing.
pub data HasSent : Sender → Life → List Sent → Type 0 where
  begins : (version : Version) (key : PacketKey) (header_key : HeaderKey) (secret : Option QuicSecretState) (first : ℕ)
      → HasSent (new_sender version key header_key secret first) (record { key = key; updates = [] }) []
  sends : (s : Sender) (life : Life) (sent : List Sent) (fixed_bit : FixedBit) (start end : ℕ) (packet wire : List ℕ)
      → IsSealable s.version fixed_bit start end packet → IsInTurn s start end → IsSent s start end packet wire → HasSent s life sent
      → HasSent (after_send s) life (record {
        number = s.next;
        number_at = start;
        header_len = end;
        packet = numbered_packet s.phase s.next start end packet;
        wire = wire;
      } ∷ sent)
  skips : (s : Sender) (life : Life) (sent : List Sent) (number : ℕ) → s.next ≤ number → HasSent s life sent
      → HasSent (after_skip s number) life sent
  updates : (s : Sender) (life : Life) (sent : List Sent) (key : PacketKey) (secret : Option QuicSecretState) → HasSent s life sent
      → HasSent (after_update s key secret) (record { key = life.key; updates = record { key = key; first = s.next } ∷ life.updates }) sent
  hears : (s : Sender) (life : Life) (sent : List Sent) (number : ℕ) → number < s.next → HasSent s life sent
      → HasSent (after_acknowledgement s number) life sent
  confirms : (s : Sender) (life : Life) (sent : List Sent) → HasSent s life sent → HasSent (record s { confirmed = true }) life sent
  lowers : (s : Sender) (life : Life) (sent : List Sent) (limit : ℕ) → HasSent s life sent
      → HasSent (record s { limit = min s.limit limit }) life sent

-- The packet with this number was sent after every key update, and so in the current key phase.
pub record WasSentInPhase (life : Life) (sent : List Sent) (number : ℕ) : Type 0 where
  pub was_sent : (packet : Sent) × Contains sent packet × (packet.number ≡ number)
  pub in_phase : updates_before life.updates number ≡ length life.updates

-- After `own` key updates, a receiver holds the key of a packet: the key is the current one or, for a short header, which has a
-- Key Phase bit, the next or the previous one.
abbrev pub Holds : (r : Receiver) (own : ℕ) → Life → Sent → Type 0
Holds r own life packet =
    let updates = updates_before life.updates packet.number in
    (updates ≡ own) ⊎ ((is_long (slice_index packet.packet 0) ≡ false)
    × (((updates ≡ own + 1) × IsSome r.next) ⊎ ((updates + 1 ≡ own) × IsSome r.previous)))

-- The state of a receiver after any calls, and its number of key updates. It is created with the sender's first key, and
-- receives packets that were sent, in any order, while it holds their keys. The next key that it is given is the sender's next
-- key, if the sender has one. It may forget the previous key. A packet that is rejected changes nothing.
pub data Follows : Life → List Sent → Receiver → ℕ → Type 0 where
  begins : (life : Life) (sent : List Sent) (version : Version) (header : HeaderKey) (secret : Option QuicSecretState)
      → Follows life sent (new_receiver version header life.key secret) 0
  receives : (life : Life) (sent : List Sent) (r : Receiver) (own : ℕ) (packet : Sent) → Contains sent packet → Holds r own life packet
      → Follows life sent r own
      → Follows life sent (received r (slice_index packet.packet 0) packet.number) (max own (updates_before life.updates packet.number))
  takes_next : (life : Life) (sent : List Sent) (r : Receiver) (own : ℕ) (key : PacketKey) (secret : Option QuicSecretState)
      → (own < length life.updates → key ≡ key_after life.key life.updates (own + 1)) → Follows life sent r own
      → Follows life sent (record r { next = Some key; secret = secret }) own
  forgets : (life : Life) (sent : List Sent) (r : Receiver) (own : ℕ) → Follows life sent r own
      → Follows life sent (record r { previous = None }) own

-- The result for a packet that was sent and begins at byte `start` of a datagram: it is received if its number is new, and is a
-- duplicate otherwise. Its number, its header and its payload are then as they were sent.
pub record GivesBack (space : Space) (start : ℕ) (packet : Sent) (result : Result Received ReceiveError) (opened : List ℕ) : Type 0 where
  pub accepted : IsOk result ↔ IsNew space packet.number
  pub duplicate : IsErrOf result Duplicate ↔ ¬ IsNew space packet.number
  pub returns : IfOk result (λ r. r ≡ record {
    number = packet.number;
    payload = span (start + packet.header_len) (start + (length packet.packet - tag_len));
    phase = has_phase (slice_index packet.packet 0);
  })
  pub bytes : take (length packet.packet - tag_len) opened ≡ take (length packet.packet - tag_len) packet.packet

-- The numbers that a space of some words has counted as received, the last one first. Each was new.
pub data Counts : Space → List ℕ → Type 0 where
  none : (words : ℕ) → Counts (new_space words) []
  marks : (s t : Space) (number : ℕ) (numbers : List ℕ) → IsNew s number → Marks s number t → Counts s numbers → Counts t (number ∷ numbers)
