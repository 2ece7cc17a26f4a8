-- The number and the header that a receiver reads of a packet that was sent, and the packet that it returns.
use Rattle.std.proofs.Common.{◌≡◌, ℕ, ◌-◌, ◌<◌, List, length, get_or, take, drop, refl, sym, ap, ap₂, ◌∙◌, arith, get_or-take, unwrap_or, inl, inr, is_some, Ok, Err, IsErrOf}
use Rattle.std.proofs.lemmas.List.{drop-take}
use Rattle.std.specs.Int.Digits.{number_from_digits}
use Rattle.std.specs.Prelude.{Contains, Result}
use Rattle.aead_ciphers.specs.Counting.{xored_nonce}
use Rattle.aead_ciphers.specs.Packet.{sealed_packet}
use Rattle.quic_packets.specs.Exchange.{Follows, GivesBack, HasSent, Holds, Life, Sent, key_after, updates_before}
use Rattle.quic_packets.specs.Header.{Protected, number_len}
use Rattle.quic_packets.specs.Keys.{PacketKey}
use Rattle.quic_packets.specs.Laws.{OpensTo}
use Rattle.quic_packets.specs.Numbers.{InWindow}
use Rattle.quic_packets.specs.Packet.{HasNumber, low_bytes}
use Rattle.quic_packets.specs.Receiving.{IsAcceptable, IsAuthentic, Outcome, ReadRefuses, Reads, Receiver, header_len, of_packet, opening_key, reserved_bits}
use Rattle.quic_packets.specs.Sending.{Sender}
use Rattle.quic_packets.specs.Space.{IsNew, Space}
use Rattle.quic_packets.specs.declared.receive_error.ReceiveError.{ReceiveError}
use Rattle.quic_packets.specs.declared.receive_error.ReceiveError.TheVariants.{Duplicate}
use Rattle.quic_packets.specs.declared.receiver.Received.{Received}
use Rattle.quic_packets.proofs.HeaderLemmas.{number_len-le}
use Rattle.quic_packets.proofs.NumberBytes.{number_low_bytes}
use Rattle.quic_packets.proofs.NumberLemmas.{back}
use Rattle.quic_packets.proofs.PacketLemmas.{comes_back, length-whole, same_front}
use Rattle.quic_packets.proofs.RefusalLemmas.{one_late}
use Rattle.quic_packets.proofs.RunLemmas.{Takes, held}
use Rattle.quic_packets.proofs.SentLemmas.{WasSentIn, was_sent}

-- A receiver reads the number and the header with which a packet was sent. The packet is authentic, and once it is opened its
-- payload is the one that was sent.
module _ (sender : Sender) (life : Life) (sent : List Sent) (run : HasSent sender life sent) (r : Receiver) (own : ℕ) (p : Sent)
    (has : Contains sent p) (follows : Follows life sent r own) (holds : Holds r own life p) (same_key : r.header ≡ sender.header_key)
    (space : Space) (window : InWindow space.next (number_len (get_or p.packet 0 0)) p.number) (plain : List ℕ) (n : ℕ)
    (reads : Reads r.header space.next p.number_at p.wire plain n) where
  was : WasSentIn sender.header_key life p
  was = was_sent sender life sent p run has

  takes : Takes life r (get_or p.packet 0 0) p.number
  takes = held sender life sent run r own p has follows holds

  abbrev key : PacketKey
  key = key_after life.key life.updates (updates_before life.updates p.number)

  protected : Protected r.header p.number_at (sealed_packet key.bytes (xored_nonce key.iv p.number) p.header_len p.packet) p.wire
  protected = rw same_key was.sealed

  parts : HasNumber p.number_at p.header_len plain × OpensTo key p.number p.header_len plain p.packet
  parts =
      comes_back key p.number p.header_len p.packet was.fits r.header p.number_at p.wire plain was.has_number was.sample protected
      reads.unmasked

  front : take p.header_len plain ≡ take p.header_len p.packet
  front =
      same_front key p.number p.header_len p.packet was.fits r.header p.number_at p.wire plain was.sample protected reads.unmasked

  first : get_or plain 0 0 ≡ get_or p.packet 0 0
  first =
      let some : 0 < p.header_len = omega (arith, was.has_number.first_byte, was.has_number.len) in
      sym (get_or-take p.header_len plain 0 0 some) ∙ ap (λ xs. get_or xs 0 0) front ∙ get_or-take p.header_len p.packet 0 0 some

  ends : header_len p.number_at plain ≡ p.header_len
  ends = sym parts.0.len

  same_len : length plain ≡ length p.packet
  same_len = reads.unmasked.len ∙ protected.len ∙ length-whole key p.number p.header_len p.packet was.fits

  -- the field of the number
  field : take (header_len p.number_at plain - p.number_at) (drop p.number_at plain)
      ≡ low_bytes (number_len (get_or p.packet 0 0)) p.number
  field =
      let k = number_len (get_or p.packet 0 0) in
      let room : p.header_len - p.number_at ≡ k = omega (arith, was.has_number.len) in
      rw (ends, room, ← drop-take p.number_at k plain, ← was.has_number.len, front)
      (rw (was.has_number.len, drop-take p.number_at k p.packet) (rw room at was.carries))

  same_number : n ≡ p.number
  same_number =
      let k = number_len (get_or p.packet 0 0) in
      let few = number_len-le (get_or p.packet 0 0) in
      let worth = ap (number_from_digits 256) field ∙ number_low_bytes k p.number (omega arith) few in
      back k space.next p.number n window was.is_number (rw (worth, first) at reads.decoded)

  its_opening_key : opening_key r (get_or plain 0 0) n ≡ key
  its_opening_key = ap₂ (opening_key r) first same_number ∙ ap (λ o. unwrap_or o r.current) takes.key

  authentic : IsAuthentic r p.number_at plain n
  authentic = record {
    fits = rw ends parts.1.fits;
    genuine = rw (its_opening_key, same_number, ends) parts.1.genuine;
  }

  unreserved : reserved_bits (get_or plain 0 0) ≡ 0
  unreserved = ap reserved_bits first ∙ was.unreserved

  admitted : (start : ℕ) → IsNew space p.number → IsAcceptable r space (get_or plain 0 0) (of_packet start p.number_at plain n)
  admitted start new = record {
    unreserved = unreserved;
    new = rw same_number new;
    in_turn = rw (first, same_number) (record { held = ap is_some takes.key; later = takes.later });
    frames = omega (arith, was.payload, ends, same_len);
  }

  -- If the packet is refused because its number isn't new, it is a duplicate.
  duplicate : (start : ℕ) (result : Result Received ReceiveError) (r' : Receiver) (opened : List ℕ)
      → Outcome r space start p.number_at plain n result r' opened → ¬ IsNew space n → IsErrOf result Duplicate
  duplicate start (Ok packet) r' opened outcome old = absurd (old (outcome.accepted.0 refl).1.new)
  duplicate start (Err e) r' opened outcome old =
      ap Err (one_late r space start p.number_at plain n e Duplicate outcome.refused (inr (authentic, (unreserved, old))))

  was_duplicate : (start : ℕ) → ReadRefuses r space start p.number_at plain n Duplicate → ¬ IsNew space n
  was_duplicate start (inl why) = absurd why
  was_duplicate start (inr why) = why.1.1

  pub gives_back : (result : Result Received ReceiveError) (r' : Receiver) (opened : List ℕ) (start : ℕ)
      → Outcome r space start p.number_at plain n result r' opened → GivesBack space start p result opened
  gives_back result r' opened start outcome = record {
    accepted = (
      λ ok. rw same_number at (outcome.accepted.0 ok).1.new,
      λ new. outcome.accepted.1 (authentic, admitted start new),
    );
    duplicate = (
      λ err new. was_duplicate start (rw err at outcome.refused) (rw same_number new),
      λ old. duplicate start result r' opened outcome (λ new. old (rw same_number at new)),
    );
    returns = rw (same_number, ends, same_len, first) at outcome.returns;
    bytes = parts.1.comes_back opened (rw (its_opening_key, same_number, ends) at (outcome.opens authentic));
  }
