-- The state of a receiver, with the keys of up to three phases (RFC 9001 section 6), and what becomes of a packet that it is
-- given.
use Rattle.std.specs.Prelude.{◌≡◌, ◌≢◌, ℕ, ◌+◌, ◌-◌, ◌<◌, ◌≤◌, ◌==◌, ◌↔◌, if◌then◌else◌, min, max, Bool, true, false, not, nat_lt, List, length, slice_index, slice_range, bit_and, Option, None, Some, IsSome, is_some, unwrap_or, Result, IsOk, IfOk, OnOk, ◌⊎◌, IsTrue, IsFalse, IfErr, OnErr, Err}
use Rattle.std.specs.Int.Digits.{number_from_digits}
use Rattle.aead_ciphers.specs.Counting.{xored_nonce}
use Rattle.aead_ciphers.specs.Gcm.{tag_len}
use Rattle.aead_ciphers.specs.HeaderProtection.{HeaderKey}
use Rattle.aead_ciphers.specs.Packet.{OpenedPacket, PacketFits}
use Rattle.key_derivation.specs.Quic.{QuicSecretState, next_quic_secret}
use Rattle.key_derivation.specs.declared.quic.Version.{Version}
use Rattle.quic_packets.specs.Datagram.{span, KeepsOutside, bytes_of, number_in}
use Rattle.quic_packets.specs.Failures.{Failures}
use Rattle.quic_packets.specs.Header.{HasSample, Unprotected, number_len}
use Rattle.quic_packets.specs.Keys.{PacketKey, secret_key}
use Rattle.quic_packets.specs.Numbers.{IsDecoded}
use Rattle.quic_packets.specs.Packet.{IsGenuine}
use Rattle.quic_packets.specs.Space.{IsNew, Space, Marks}
use Rattle.quic_packets.specs.Versions.{is_other_version}
use Rattle.quic_packets.specs.declared.datagram.Packet.{Packet}
use Rattle.quic_packets.specs.declared.receive_error.ReceiveError.{ReceiveError}
use Rattle.quic_packets.specs.declared.receive_error.ReceiveError.TheVariants.{Duplicate, KeyUpdate, NoFrames, Refused, ReservedBits, TooLong, PastEnd, OtherVersion, NoNumber, NumberAtFirstByte, NoSample, TooManyFailures}
use Rattle.quic_packets.specs.declared.receiver.Received.{Received}

-- The state of a receiver. A highest number is 0 if there is none.
pub record Receiver : Type 0 where
  -- the version of its packets
  pub version : Version
  -- the header key
  pub header : HeaderKey
  -- the secret of the next packet key or, until that is set, of the current one, if the receiver was created from a secret
  pub secret : Option QuicSecretState
  -- the packet key of this phase
  pub current : PacketKey
  -- the packet key of the next phase, if it is set
  pub next : Option PacketKey
  -- the packet key of the previous phase, if it is kept
  pub previous : Option PacketKey
  -- the Key Phase bit of this phase
  pub phase : Bool
  -- the lowest and the highest number that was opened in this phase, where the lowest is 0 in the first phase
  pub lowest : ℕ
  pub highest : ℕ
  -- the highest number that was opened under the previous key, and under the keys before that one
  pub highest_previous : ℕ
  pub highest_earlier : ℕ

-- a receiver that is created with this key
abbrev pub new_receiver : Version → HeaderKey → PacketKey → Option QuicSecretState → Receiver
new_receiver version header key secret = record {
  version = version;
  header = header;
  secret = secret;
  current = key;
  next = None;
  previous = None;
  phase = false;
  lowest = 0;
  highest = 0;
  highest_previous = 0;
  highest_earlier = 0;
}

-- The receiver with its next key, unless that is set: the key of the secret after the one that is held (RFC 9001 section 6.1).
abbrev pub with_next : Receiver → QuicSecretState → Receiver
with_next r held =
    let next = next_quic_secret held in
    if is_some r.next then r else record r { secret = Some next; next = Some (secret_key next) }

-- a short header has a Key Phase bit, and a long one does not (RFC 9000 section 17.3.1)
abbrev pub has_phase : ℕ → Bool
has_phase first = bit_and first 0x84 == 0x04

-- a short header whose Key Phase bit differs from the receiver's
abbrev pub is_other_phase : Receiver → ℕ → Bool
is_other_phase r first = bit_and first 0x84 == (if r.phase then 0x00 else 0x04)

-- The key of a packet, from its first byte and its number, if it is held. In the other phase it is the previous key if the
-- number is lower than any of this phase, and the next key otherwise (RFC 9001 section 6.5).
abbrev pub key_of : Receiver → ℕ → ℕ → Option PacketKey
key_of r first number = if is_other_phase r first then (if nat_lt number r.lowest then r.previous else r.next) else Some r.current

-- The key with which a packet is opened. If its own is not held, this is another one, so that the time doesn't reveal it
-- (section 6.3).
abbrev pub opening_key : Receiver → ℕ → ℕ → PacketKey
opening_key r first number = unwrap_or (key_of r first number) r.current

-- The highest number that was opened under keys before the packet's key.
abbrev pub highest_before : Receiver → ℕ → ℕ → ℕ
highest_before r first number =
    if is_other_phase r first then (if nat_lt number r.lowest then r.highest_earlier else r.highest) else r.highest_previous

-- The packet's key is held, and no packet with a higher number was opened under an earlier key, since later packets are never
-- under earlier keys (section 6.4).
pub record IsInTurn (r : Receiver) (first number : ℕ) : Type 0 where
  pub held : IsSome (key_of r first number)
  pub later : highest_before r first number ≤ number

-- The receiver after the next key first opened a packet: the next key becomes the current one, and the current one the previous
-- (section 6.2).
abbrev pub updated : Receiver → ℕ → Option PacketKey → Receiver
updated r number None = r
updated r number (Some key) =
    record r {
      current = key;
      next = None;
      previous = Some r.current;
      phase = not r.phase;
      lowest = number;
      highest = number;
      highest_previous = r.highest;
      highest_earlier = r.highest_previous;
    }

-- the receiver after a packet was received
abbrev pub received : Receiver → ℕ → ℕ → Receiver
received r first number =
    if is_other_phase r first
    then (if nat_lt number r.lowest then record r { highest_previous = max r.highest_previous number } else updated r number r.next)
    else record r { lowest = min r.lowest number; highest = max r.highest number }

-- the reserved bits of a long header (RFC 9000 section 17.2) and of a short one (section 17.3.1)
abbrev pub reserved_bits : ℕ → ℕ
reserved_bits first = bit_and first (if bit_and first 0x80 == 0x80 then 0x0c else 0x18)

-- the length of the header, which ends with the packet number
abbrev pub header_len : ℕ → List ℕ → ℕ
header_len number_at plain = number_at + number_len (slice_index plain 0)

-- What is read of a packet before it is opened: `plain`, the packet with its header unmasked (RFC 9001 section 5.4), and
-- `number`, which is decoded from the header (RFC 9000 appendix A.3).
pub record Reads (key : HeaderKey) (expected number_at : ℕ) (wire plain : List ℕ) (number : ℕ) : Type 0 where
  pub sample : HasSample number_at (length wire)
  pub unmasked : Unprotected key number_at wire plain
  pub decoded : IsDecoded expected (number_from_digits 256 (slice_range plain number_at (header_len number_at plain)))
      (number_len (slice_index plain 0)) number

-- An unmasked packet is within the lengths of AES-GCM, and its tag matches its header, its payload and its number under the key
-- that it is opened with.
pub record IsAuthentic (r : Receiver) (number_at : ℕ) (plain : List ℕ) (number : ℕ) : Type 0 where
  pub fits : PacketFits (header_len number_at plain) (length plain)
  pub genuine : (let key = opening_key r (slice_index plain 0) number in
      IsGenuine key.bytes (xored_nonce key.iv number) (header_len number_at plain) plain)

-- The packet after it is opened: the plaintext payload follows the header.
abbrev pub Opens : (r : Receiver) (number_at : ℕ) (plain : List ℕ) (number : ℕ) → List ℕ → Type 0
Opens r number_at plain number opened =
    let key = opening_key r (slice_index plain 0) number in
    OpenedPacket key.bytes (xored_nonce key.iv number) (header_len number_at plain) plain true opened

-- What is returned for a packet that is received and begins at byte `start` of its datagram.
abbrev pub of_packet : (start number_at : ℕ) (plain : List ℕ) (number : ℕ) → Received
of_packet start number_at plain number = record {
  number = number;
  payload = span (start + header_len number_at plain) (start + (length plain - tag_len));
  phase = has_phase (slice_index plain 0);
}

-- The reasons for which a packet is rejected. Each definition gives the reason for each error, and ⊥ for an error that never
-- comes. No two reasons of a definition hold for one packet.

-- The reason for which a receiver doesn't read a packet of a datagram that has `len` bytes.
abbrev pub EarlyRefuses : (r : Receiver) (f : Failures) (parts : Packet) (len : ℕ) → ReceiveError → Type 0
EarlyRefuses r f parts len TooManyFailures = f.limit ≤ f.count
EarlyRefuses r f parts len PastEnd = (f.count < f.limit) × (len < parts.end)
EarlyRefuses r f parts len OtherVersion =
    (f.count < f.limit) × (parts.end ≤ len) × IsTrue (is_other_version r.version parts.version)
EarlyRefuses r f parts len NoNumber = (f.count < f.limit) × (parts.end ≤ len)
    × IsFalse (is_other_version r.version parts.version) × ¬ IsSome parts.number_at
EarlyRefuses r f parts len NumberAtFirstByte = (f.count < f.limit) × (parts.end ≤ len)
    × IsFalse (is_other_version r.version parts.version) × IsSome parts.number_at × (number_in parts ≡ 0)
EarlyRefuses r f parts len NoSample = (f.count < f.limit) × (parts.end ≤ len)
    × IsFalse (is_other_version r.version parts.version) × (0 < number_in parts)
    × (parts.end - parts.start < number_in parts + 20)
EarlyRefuses r f parts len error = ⊥

-- A receiver reads the packet with these parts: the limit of failures isn't reached, and the packet ends within the datagram,
-- has no other version, and is long enough for a sample.
pub record IsReadable (r : Receiver) (f : Failures) (parts : Packet) (len : ℕ) : Type 0 where
  pub receiving : f.count < f.limit
  pub within : parts.end ≤ len
  pub of_version : IsFalse (is_other_version r.version parts.version)
  pub sample : HasSample (number_in parts) (parts.end - parts.start)

-- The reason for which a packet that is read isn't opened.
abbrev pub OpenRefuses : (r : Receiver) (number_at : ℕ) (plain : List ℕ) (number : ℕ) → ReceiveError → Type 0
OpenRefuses r number_at plain number TooLong = ¬ PacketFits (header_len number_at plain) (length plain)
OpenRefuses r number_at plain number Refused =
    PacketFits (header_len number_at plain) (length plain) × ¬ IsAuthentic r number_at plain number
OpenRefuses r number_at plain number error = ⊥

-- The reason for which a packet that is opened, with this first byte, isn't received.
abbrev pub AcceptRefuses : (r : Receiver) (s : Space) (first : ℕ) (packet : Received) → ReceiveError → Type 0
AcceptRefuses r s first packet ReservedBits = reserved_bits first ≢ 0
AcceptRefuses r s first packet Duplicate = (reserved_bits first ≡ 0) × ¬ IsNew s packet.number
AcceptRefuses r s first packet KeyUpdate =
    (reserved_bits first ≡ 0) × IsNew s packet.number × ¬ IsInTurn r first packet.number
AcceptRefuses r s first packet NoFrames = (reserved_bits first ≡ 0) × IsNew s packet.number × IsInTurn r first packet.number
    × (packet.payload.end ≤ packet.payload.start)
AcceptRefuses r s first packet error = ⊥

-- The reason for which a packet that is read isn't received.
abbrev pub ReadRefuses : (r : Receiver) (s : Space) (start number_at : ℕ) (plain : List ℕ) (number : ℕ) → ReceiveError → Type 0
ReadRefuses r s start number_at plain number error = OpenRefuses r number_at plain number error
    ⊎ (IsAuthentic r number_at plain number
    × AcceptRefuses r s (slice_index plain 0) (of_packet start number_at plain number) error)

-- A packet that is opened, with this first byte, is received: its reserved bits are 0 (RFC 9000 sections 17.2 and 17.3.1), its
-- number is new (section 12.3), its key is in turn, and its payload is not empty (section 12.4).
pub record IsAcceptable (r : Receiver) (s : Space) (first : ℕ) (packet : Received) : Type 0 where
  pub unreserved : reserved_bits first ≡ 0
  pub new : IsNew s packet.number
  pub in_turn : IsInTurn r first packet.number
  pub frames : packet.payload.start < packet.payload.end

-- The outcome of opening a packet that is read: its first byte and what is returned for it, or an error.
pub record Opening (r : Receiver) (start number_at : ℕ) (plain : List ℕ) (number : ℕ) (result : Result (ℕ × Received) ReceiveError)
    (opened : List ℕ) : Type 0 where
  pub accepted : IsOk result ↔ IsAuthentic r number_at plain number
  pub refused : IfErr result (OpenRefuses r number_at plain number)
  pub opens : OnOk result (Opens r number_at plain number opened)
  pub returns : IfOk result (λ packet. packet ≡ (slice_index plain 0, of_packet start number_at plain number))

-- The outcome of a packet that is read: it is received, or rejected for a reason. An authentic packet is opened in place, even
-- if it is then rejected.
pub record Outcome (r : Receiver) (s : Space) (start number_at : ℕ) (plain : List ℕ) (number : ℕ) (result : Result Received ReceiveError)
    (r' : Receiver) (opened : List ℕ) : Type 0 where
  pub accepted : IsOk result ↔ (IsAuthentic r number_at plain number
      × IsAcceptable r s (slice_index plain 0) (of_packet start number_at plain number))
  pub refused : IfErr result (ReadRefuses r s start number_at plain number)
  pub opens : IsAuthentic r number_at plain number → Opens r number_at plain number opened
  pub returns : IfOk result (λ packet. packet ≡ of_packet start number_at plain number)
  pub moves_on : OnOk result (r' ≡ received r (slice_index plain 0) number)

-- the errors of a packet that is authentic, and is opened in place
abbrev pub is_of_opened : ReceiveError → Bool
is_of_opened ReservedBits = true
is_of_opened Duplicate = true
is_of_opened KeyUpdate = true
is_of_opened NoFrames = true
is_of_opened _ = false

-- The count of packets that have failed authentication, once a packet with this result is counted.
abbrev pub failures_after : Failures → Result Received ReceiveError → Failures
failures_after f (Err Refused) = record f { count = f.count + 1 }
failures_after f result = f

-- The outcome of giving a packet with these parts of a datagram to a receiver: the result, and the receiver, the space of
-- numbers, the count of failures and the datagram after the call. `refused` and `readable` say whether the packet was read, and
-- `read` what follows if it was.
pub record ReceiveOutcome (r : Receiver) (s : Space) (f : Failures) (parts : Packet) (old : List ℕ)
    (result : Result Received ReceiveError) (r' : Receiver) (s' : Space) (f' : Failures) (new : List ℕ) : Type 0 where
  pub readable : OnOk result (IsReadable r f parts (length old))
  pub refused : IfErr result (λ error. EarlyRefuses r f parts (length old) error ⊎ IsReadable r f parts (length old))
  pub read : IsReadable r f parts (length old) → (plain : List ℕ) × (number : ℕ)
      × Reads r.header s.next (number_in parts) (bytes_of parts old) plain number
      × Outcome r s parts.start (number_in parts) plain number result r' (bytes_of parts new)
  pub payload : IfOk result (λ p. (parts.start < p.payload.start) × (p.payload.start ≤ p.payload.end)
      × (p.payload.end + tag_len ≡ parts.end) × (parts.end ≤ length old))
  pub marked : IfOk result (λ p. IsNew s p.number × Marks s p.number s')
  pub counted : f' ≡ failures_after f result
  pub kept : OnErr result ((r' ≡ r) × (s' ≡ s))
  pub bytes_kept : IfErr result (λ error. is_of_opened error ≡ false → new ≡ old)
  pub outside : KeepsOutside parts.start parts.end old new
