-- No two reasons to refuse a packet hold at once, and none holds for a packet that may be sent or that is received.
use Rattle.std.proofs.Common.{◌≡◌, ℕ, inl, inr, List, arith, refl, rules, get_or}
use Rattle.std.proofs.lemmas.Grind.{common_steps}
use Rattle.key_derivation.specs.declared.quic.Version.{Version}
use Rattle.quic_packets.specs.Failures.{Failures}
use Rattle.quic_packets.specs.Receiving.{EarlyRefuses, IsAcceptable, IsAuthentic, IsReadable, ReadRefuses, Receiver, of_packet}
use Rattle.quic_packets.specs.Sending.{IsInTurn, IsSealable, NumberRefuses, PacketRefuses, Sender, SenderRefuses}
use Rattle.quic_packets.specs.Space.{Space}
use Rattle.quic_packets.specs.declared.datagram.Packet.{Packet}
use Rattle.quic_packets.specs.declared.fixed_bit.FixedBit.{FixedBit}
use Rattle.quic_packets.specs.declared.receive_error.ReceiveError.{ReceiveError}
use Rattle.quic_packets.specs.declared.receive_error.ReceiveError.TheVariants.{Duplicate, KeyUpdate, NoFrames, NoNumber, NoSample as NoSampleError, NumberAtFirstByte as FirstByteError, OtherVersion as OtherVersionError, PastEnd, Refused, ReservedBits, TooLong as TooLongError, TooManyFailures}
use Rattle.quic_packets.specs.declared.send_error.SendError.{SendError}
use Rattle.quic_packets.specs.declared.send_error.SendError.TheVariants.{EmptyPayload, KeyUsedUp, NoFixedBit, NoProtection, NoSample, NumberAtFirstByte, NumberLength, NumberTooFar, NumbersEnded, OtherVersion, TooLong, TooShort}

module _ (version : Version) (fixed_bit : FixedBit) (start end : ℕ) (packet : List ℕ) where
  one_of_packet : (e f : SendError) → PacketRefuses version fixed_bit start end packet e
      → PacketRefuses version fixed_bit start end packet f → e ≡ f
  one_of_packet TooShort TooShort d d' = refl
  one_of_packet TooLong TooLong d d' = refl
  one_of_packet NumberAtFirstByte NumberAtFirstByte d d' = refl
  one_of_packet NoSample NoSample d d' = refl
  one_of_packet NoProtection NoProtection d d' = refl
  one_of_packet OtherVersion OtherVersion d d' = refl
  one_of_packet NoFixedBit NoFixedBit d d' = refl
  one_of_packet EmptyPayload EmptyPayload d d' = refl
  one_of_packet e f d d' = absurd (first_of (search rules, grind (arith, common_steps)))

  not_sealable : (e : SendError) → PacketRefuses version fixed_bit start end packet e → IsSealable version fixed_bit start end packet → ⊥
  not_sealable e d is = first_of (search rules, grind (arith, common_steps))

module _ (s : Sender) (start end : ℕ) where
  one_of_number : (e f : SendError) → NumberRefuses s start end e → NumberRefuses s start end f → e ≡ f
  one_of_number KeyUsedUp KeyUsedUp d d' = refl
  one_of_number NumbersEnded NumbersEnded d d' = refl
  one_of_number NumberTooFar NumberTooFar d d' = refl
  one_of_number NumberLength NumberLength d d' = refl
  one_of_number e f d d' = absurd (first_of (search rules, grind (arith, common_steps)))

  not_in_turn : (e : SendError) → NumberRefuses s start end e → IsInTurn s start end → ⊥
  not_in_turn e d is = first_of (search rules, grind (arith, common_steps))

-- a sender refuses a packet for one reason
pub one : (s : Sender) (fixed_bit : FixedBit) (start end : ℕ) (packet : List ℕ) (e f : SendError)
    → SenderRefuses s fixed_bit start end packet e → SenderRefuses s fixed_bit start end packet f → e ≡ f
one s fixed_bit start end packet e f (inl d) (inl d') = one_of_packet s.version fixed_bit start end packet e f d d'
one s fixed_bit start end packet e f (inl d) (inr d') = absurd (not_sealable s.version fixed_bit start end packet e d d'.0)
one s fixed_bit start end packet e f (inr d) (inl d') = absurd (not_sealable s.version fixed_bit start end packet f d' d.0)
one s fixed_bit start end packet e f (inr d) (inr d') = one_of_number s start end e f d.1 d'.1

-- no reason holds for a packet that may be sent
pub none : (s : Sender) (fixed_bit : FixedBit) (start end : ℕ) (packet : List ℕ) (e : SendError)
    → SenderRefuses s fixed_bit start end packet e → IsSealable s.version fixed_bit start end packet × IsInTurn s start end → ⊥
none s fixed_bit start end packet e (inl d) is = not_sealable s.version fixed_bit start end packet e d is.0
none s fixed_bit start end packet e (inr d) is = not_in_turn s start end e d.1 is.1

-- Receiving.

module _ (r : Receiver) (f : Failures) (parts : Packet) (len : ℕ) where
  -- No two reasons not to read a packet hold at once.
  pub one_early : (e e' : ReceiveError) → EarlyRefuses r f parts len e → EarlyRefuses r f parts len e' → e ≡ e'
  one_early TooManyFailures TooManyFailures d d' = refl
  one_early PastEnd PastEnd d d' = refl
  one_early OtherVersionError OtherVersionError d d' = refl
  one_early NoNumber NoNumber d d' = refl
  one_early FirstByteError FirstByteError d d' = refl
  one_early NoSampleError NoSampleError d d' = refl
  one_early e e' d d' = absurd (first_of (search rules, grind (arith, common_steps)))

  pub not_readable : (e : ReceiveError) → EarlyRefuses r f parts len e → IsReadable r f parts len → ⊥
  not_readable e d is = first_of (search rules, grind (arith, common_steps))

module _ (r : Receiver) (s : Space) (start number_at : ℕ) (plain : List ℕ) (number : ℕ) where
  -- No two reasons not to receive a packet that is read hold at once.
  pub one_late : (e e' : ReceiveError) → ReadRefuses r s start number_at plain number e
      → ReadRefuses r s start number_at plain number e' → e ≡ e'
  one_late TooLongError TooLongError d d' = refl
  one_late Refused Refused d d' = refl
  one_late ReservedBits ReservedBits d d' = refl
  one_late Duplicate Duplicate d d' = refl
  one_late KeyUpdate KeyUpdate d d' = refl
  one_late NoFrames NoFrames d d' = refl
  one_late e e' d d' = absurd (first_of (search rules, grind (arith, common_steps)))

  pub not_received : (e : ReceiveError) → ReadRefuses r s start number_at plain number e
      → IsAuthentic r number_at plain number × IsAcceptable r s (get_or plain 0 0) (of_packet start number_at plain number) → ⊥
  not_received e d is = first_of (search rules, grind (arith, common_steps))
