-- The keys and packet numbers of one encryption level: its sender, its receiver, and one space of received numbers (RFC 9000
-- section 12.3, RFC 9001 sections 4.9, 5.7 and 6).
use Rattle.std.specs.Prelude.{◌≡◌, ℕ, ◌*◌, ◌^◌, ◌<◌, ◌≤◌, ◌↔◌, Bool, true, false, not, ◌&&◌, nat_lt, min, if◌then◌else◌, IsFalse, List, Option, None, Some, is_some, Result, Err, ⊤, IsOk, IsOkUnless, OnOk, OnErr}
use Rattle.key_derivation.specs.Quic.{QuicSecretState}
use Rattle.quic_packets.specs.Keys.{secret_header_key, secret_key}
use Rattle.quic_packets.specs.Receiving.{Receiver, with_next}
use Rattle.quic_packets.specs.Sending.{SendOutcome, Sender, SenderRefuses, after_derived_update, after_send, left, new_sender, with_installed_keys}
use Rattle.quic_packets.specs.Space.{Space, new_space}
use Rattle.quic_packets.specs.declared.connection.ends.SentPacket.{SentPacket}
use Rattle.quic_packets.specs.declared.connection.incoming.PeerUpdate.{PeerUpdate}
use Rattle.quic_packets.specs.declared.connection.incoming.PeerUpdate.TheVariants.{Initiated, Answered}
use Rattle.quic_packets.specs.declared.key_error.KeyError.{KeyError}
use Rattle.quic_packets.specs.declared.key_error.KeyError.TheVariants.{Discarded}
use Rattle.quic_packets.specs.declared.send_error.SendError.{SendError}
use Rattle.quic_packets.specs.declared.send_error.SendError.TheVariants.{KeyUsedUp, NoKeys}
use Rattle.quic_packets.specs.declared.fixed_bit.FixedBit.{FixedBit}

-- A level: its sender and its receiver, each of which is there once its keys are installed, the numbers that were received, and
-- whether the keys were discarded.
pub record Ends : Type 0 where
  pub sender : Option Sender
  pub receiver : Option Receiver
  pub space : Space
  pub discarded : Bool

-- A level without keys, which may still be installed. Nothing was received at it, and its window has this many words.
abbrev pub no_ends : (words : ℕ) → Ends
no_ends words = record { sender = None; receiver = None; space = new_space words; discarded = false }

-- A level whose keys were discarded (RFC 9001 section 4.9).
abbrev pub after_discard : Ends → Ends
after_discard e = record e { sender = None; receiver = None; discarded = true }

-- The sender, if there is one, was created from a secret.
abbrev pub is_derived : Option Sender → Bool
is_derived None = true
is_derived (Some s) = is_some s.secret

-- Installing keys.

-- Keys are installed, and the state becomes `after`, unless the keys of the level were discarded (RFC 9001 section 4.9).
pub record Installs {State : Type 0} (dropped : Bool) (result : Result ⊤ KeyError) (old new after : State) : Type 0 where
  pub accepted : IsOk result ↔ IsFalse dropped
  pub refused : IsOkUnless result Discarded
  pub installed : OnOk result (new ≡ after)
  pub kept : OnErr result (new ≡ old)

-- The sender with the keys of a secret. A new one begins with number 0 and has this limit. The one that is there continues with
-- its numbers and its limit (RFC 9000 sections 12.3 and 17.2.5.3).
abbrev pub installed : Option Sender → QuicSecretState → (limit : ℕ) → Sender
installed None secret limit =
    record (new_sender secret.version (secret_key secret) (secret_header_key secret) (Some secret) 0) { limit = min (2 ^ 23) limit }
installed (Some s) secret limit = with_installed_keys s secret.version (secret_key secret) (secret_header_key secret) (Some secret)

-- the receiver with the key of the next secret, unless its next key is set (RFC 9001 section 6.1)
abbrev pub prepared_by : Receiver → Option QuicSecretState → Receiver
prepared_by r None = r
prepared_by r (Some held) = with_next r held

abbrev pub prepared : Option Receiver → Option Receiver
prepared None = None
prepared (Some r) = Some (prepared_by r r.secret)

-- Updating keys.

-- the sender after a key update to the secret after its own (RFC 9001 section 6.1)
abbrev pub updated_by : Sender → Option QuicSecretState → Sender
updated_by s None = s
updated_by s (Some held) = after_derived_update s held

abbrev pub next_phase : Option Sender → Option Sender
next_phase None = None
next_phase (Some s) = Some (updated_by s s.secret)

-- the receiver without the key of the previous phase (RFC 9001 section 6.5)
abbrev pub forgotten : Option Receiver → Option Receiver
forgotten None = None
forgotten (Some r) = Some (record r { previous = None })

-- the sender knows that the handshake is confirmed (RFC 9001 section 4.1.2)
abbrev pub knows_confirmed : Option Sender → Bool
knows_confirmed None = false
knows_confirmed (Some s) = s.confirmed

-- the handshake is confirmed, and the keys of both directions are there (RFC 9001 section 6.1)
abbrev pub is_confirmed : Ends → Bool
is_confirmed e = is_some e.receiver && knows_confirmed e.sender

-- a packet of the sender's phase is acknowledged, or its keys were never updated (RFC 9001 section 6.1)
abbrev pub is_acknowledged : Option Sender → Bool
is_acknowledged None = false
is_acknowledged (Some s) = s.acknowledged

-- a key update may be initiated (RFC 9001 section 6.1)
abbrev pub may_update : Ends → Bool
may_update e = is_confirmed e && is_acknowledged e.sender

-- This many packets of a 1-RTT key are kept for the packet that closes the connection: none if a key update may be initiated,
-- and otherwise one (RFC 9001 section 6.6).
abbrev pub kept_for_close : Ends → ℕ
kept_for_close e = if may_update e then 0 else 1

-- The level after a key update is initiated. An endpoint holds at most two keys to receive with, so the previous one is dropped
-- (RFC 9001 sections 6.1 and 6.5).
abbrev pub initiated : Ends → Ends
initiated e = record e { sender = next_phase e.sender; receiver = forgotten e.receiver }

-- the sender once the handshake is confirmed (RFC 9001 section 4.1.2)
abbrev pub confirmed : Option Sender → Option Sender
confirmed None = None
confirmed (Some s) = Some (record s { confirmed = true })

-- two Key Phase bits differ
abbrev pub differ : Bool → Bool → Bool
differ a b = if a then not b else b

abbrev pub phase_of : Option Receiver → Bool
phase_of None = false
phase_of (Some r) = r.phase

-- The sender in this key phase: unless it is in it already, it enters the phase by a key update (RFC 9001 section 6.2).
abbrev pub in_phase : Option Sender → (phase : Bool) → Option Sender
in_phase None phase = None
in_phase (Some s) phase = if differ s.phase phase then Some (updated_by s s.secret) else Some s

-- The sender after a packet was received. If the receiver's phase has changed from `was` to `now`, the sender follows the key
-- update of the peer.
abbrev pub following : Option Sender → (was now : Bool) → Option Sender
following sender was now = if differ was now then in_phase sender now else sender

-- The kind of the key update by which the peer begins to send in this key phase. If this endpoint already sends in that phase,
-- it has initiated the update, and this is the peer's update in response to it. Otherwise the peer has initiated the update (RFC
-- 9001 sections 6.1 and 6.2).
abbrev pub update_into : Option Sender → (phase : Bool) → PeerUpdate
update_into None phase = Initiated
update_into (Some s) phase = if differ s.phase phase then Initiated else Answered

-- The key update that a packet shows, if it changes the receiver's key phase from `was` to `now`. Such a packet is the first one
-- that the next key opens.
abbrev pub peer_update : Option Sender → (was now : Bool) → Option PeerUpdate
peer_update sender was now = if differ was now then Some (update_into sender now) else None

-- Sending.

-- fewer than 2^16 packets are left to the key, and fewer than half of its limit
abbrev pub is_update_due : Option Sender → Bool
is_update_due None = false
is_update_due (Some s) = nat_lt (left s) (2 ^ 16) && nat_lt (2 * left s) s.limit

-- the level after its sender has sent a packet
abbrev pub sent : Ends → Sender → Ends
sent e s = record e { sender = Some (after_send s) }

-- What sending returns for the sender's next packet. `keys_updated` says whether a key update has followed the packet.
abbrev pub sent_as : Sender → (keys_updated : Bool) → SentPacket
sent_as s keys_updated = record { number = s.next; keys_updated = keys_updated }

-- a key update is due, and may be initiated
abbrev pub initiates_update : Ends → Bool
initiates_update e = may_update e && is_update_due e.sender

-- The level after a key update is initiated, if one is due and may be initiated.
abbrev pub updated_if_due : Ends → Ends
updated_if_due e = if initiates_update e then initiated e else e

-- the level with the next key of its receiver
abbrev pub with_next_key : Ends → Ends
with_next_key e = record e { receiver = prepared e.receiver }

-- The reason for which a level with this sender refuses a packet, if it keeps `kept_for_close` packets of the key for the
-- packet that closes the connection.
abbrev pub EndRefuses : (s : Sender) (kept_for_close : ℕ) (fixed_bit : FixedBit) (start end : ℕ) (packet : List ℕ)
    → SendError → Type 0
EndRefuses s kept_for_close fixed_bit start end packet KeyUsedUp = left s ≤ kept_for_close
EndRefuses s kept_for_close fixed_bit start end packet error =
    (kept_for_close < left s) × SenderRefuses s fixed_bit start end packet error

-- The outcome of sending a packet at a level that keeps `kept_for_close` packets of the key for the packet that closes the
-- connection: that of its sender, where `follows` says whether a key update follows the packet. If the level has no sender, the
-- packet is refused.
abbrev pub EndOutcome : {State : Type 0} (sender : Option Sender) (kept_for_close : ℕ) (fixed_bit : FixedBit) (start end : ℕ)
    (old new : List ℕ) (result : Result SentPacket SendError) (follows : Sender → Bool) (before now : State)
    (after : Sender → State) → Type 0
EndOutcome None kept_for_close fixed_bit start end old new result follows before now after =
    (result ≡ Err NoKeys) × (new ≡ old) × (now ≡ before)
EndOutcome (Some s) kept_for_close fixed_bit start end old new result follows before now after =
    SendOutcome s kept_for_close fixed_bit start end (EndRefuses s kept_for_close fixed_bit start end old) old new result
    (sent_as s (follows s)) before now (after s)
