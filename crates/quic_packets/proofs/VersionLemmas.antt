-- A packet that was sent has the version of its sender.
use Rattle.std.proofs.Common.{◌≡◌, ℕ, ◌-◌, ◌<◌, ◌≤◌, ◌==◌, if◌then◌else◌, inl, false, List, ◌++◌, length, get_or, take, drop, Some, None, sym, ap, ap₂, ◌∙◌, arith, get_or-take, get_or-set_other, subst, length-take-le}
use Rattle.std.proofs.lemmas.List.{get_or_append_left}
use Rattle.std.proofs.lemmas.List.Elements.{All-cons, All-contains, All-nil}
use Rattle.std.specs.Int.Digits.{number_from_digits}
use Rattle.std.specs.Prelude.{All, Contains}
use Rattle.aead_ciphers.specs.Counting.{xored_nonce}
use Rattle.aead_ciphers.specs.Packet.{PacketFits, sealed_packet}
use Rattle.key_derivation.specs.declared.quic.Version.{Version}
use Rattle.quic_packets.specs.Exchange.{HasSent, Life, Sent, begins, confirms, hears, lowers, sends, skips, updates}
use Rattle.quic_packets.specs.Packet.{low_bytes}
use Rattle.quic_packets.specs.Sending.{IsInTurn, IsSealable, IsSent, Sender, header_version, is_long, numbered_packet}
use Rattle.quic_packets.specs.Versions.{is_other_version}
use Rattle.quic_packets.specs.declared.fixed_bit.FixedBit.{FixedBit}
use Rattle.quic_packets.proofs.HeaderLemmas.{same_form_masked, same_range}
use Rattle.quic_packets.proofs.NumberedLemmas.{IsNumbered, numbered, same_form}
use Rattle.quic_packets.proofs.PacketLemmas.{length-whole}

-- A list that begins with the front of another list.
front : (n : ℕ) (xs rest : List ℕ) (i : ℕ) → i < n → n ≤ length xs → get_or (take n xs ++ rest) i 0 ≡ get_or xs i 0
front n xs rest i lt le =
    get_or_append_left (take n xs) rest 0 i (omega (arith, length-take-le n xs le)) ∙ get_or-take n xs i 0 lt

-- a packet that is sent now
module _ (s : Sender) (fixed_bit : FixedBit) (start end : ℕ) (packet wire : List ℕ) (sealable : IsSealable s.version fixed_bit start end packet)
    (turn : IsInTurn s start end) (is : IsSent s start end packet wire) (after : 5 ≤ start) where
  abbrev whole : List ℕ
  whole = numbered_packet s.phase s.next start end packet

  abbrev sealed : List ℕ
  sealed = sealed_packet s.key.bytes (xored_nonce s.key.iv s.next) end whole

  within : end ≤ length packet
  within = omega (arith, sealable.fits.room)

  it : IsNumbered s.phase s.next start end packet whole
  it = numbered s.phase s.next start end packet sealable.sample.first_byte turn.room.some turn.room.few within

  -- sealing keeps the header
  header : (i : ℕ) → i < end → get_or sealed i 0 ≡ get_or whole i 0
  header i lt = front end whole _ i lt (omega (arith, it.len, within))

  -- the number comes after the version
  kept : (i : ℕ) → 0 < i → i < 5 → get_or wire i 0 ≡ get_or packet i 0
  kept i some few =
      is.others i some (inl (omega arith)) ∙ header i (omega (arith, turn.room.some))
      ∙ get_or-set_other (take start packet ++ (low_bytes (end - start) s.next ++ drop end packet)) 0 i _ 0 (omega arith)
      ∙ front start packet _ i (omega arith) (omega (arith, turn.room.some, within))

  room : length wire ≡ length packet
  room = is.len ∙ length-whole s.key s.next end whole (subst (PacketFits end) (sym it.len) sealable.fits) ∙ it.len

  long : is_long (get_or wire 0 0) ≡ is_long (get_or packet 0 0)
  long =
      ap is_long is.first ∙ ap (λ v. v == 0x80) (same_form_masked (get_or sealed 0 0) _)
      ∙ ap is_long (header 0 (omega (arith, turn.room.some)) ∙ it.first)
      ∙ same_form s.phase (end - start) (get_or packet 0 0) (omega (arith, turn.room.some)) (omega (arith, turn.room.few))

  of_version_now : is_other_version s.version (header_version wire) ≡ false
  of_version_now =
      let long_enough : 5 ≤ length packet = omega (arith, turn.room.some, within) in
      let field = same_range 1 4 wire packet (omega (arith, room, long_enough)) long_enough kept in
      ap (is_other_version s.version) (ap₂ (λ long bytes. if long then Some (number_from_digits 256 bytes) else None) long field)
      ∙ sealable.of_version

-- A packet whose number comes after its version is not of another version.
abbrev OfVersion : Version → Sent → Type 0
OfVersion version p = 5 ≤ p.number_at → is_other_version version (header_version p.wire) ≡ false

each : (s : Sender) (life : Life) (sent : List Sent) → HasSent s life sent → All (OfVersion s.version) sent
each s life sent (begins version key header_key secret from) = All-nil (OfVersion version)
each t l ps (sends s life sent fixed_bit start end packet wire sealable turn is run) =
    All-cons (OfVersion s.version) _ sent (of_version_now s fixed_bit start end packet wire sealable turn is)
    (each s life sent run)
each t l ps (skips s life sent number le run) = each s life sent run
each t l ps (updates s life sent key secret run) = each s life sent run
each t l ps (hears s life sent number below run) = each s life sent run
each t l ps (confirms s life sent run) = each s life sent run
each t l ps (lowers s life sent limit run) = each s life sent run

pub sent_in_version : (s : Sender) (life : Life) (sent : List Sent) (p : Sent) → HasSent s life sent → Contains sent p → OfVersion s.version p
sent_in_version s life sent p run has = All-contains (OfVersion s.version) sent p (each s life sent run) has
