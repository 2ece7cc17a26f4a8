-- Opening undoes sealing, even if the header was masked and unmasked in between.
use Rattle.std.proofs.Common.{◌≡◌, ℕ, ◌+◌, ◌-◌, ◌<◌, List, ◌++◌, length, get_or, take, drop, sym, ap, ap₂, subst, ◌∙◌, length-append, length-drop, arith, drop_at, get_or-take, length-take-le, take_at}
use Rattle.std.proofs.Math.Seq.{take-add}
use Rattle.aead_ciphers_base.specs.Aes.{aes}
use Rattle.aead_ciphers.specs
use specs.Gcm.{gcm_decrypted, gcm_encrypted, gcm_tag}
use specs.HeaderProtection.{HeaderKey}
use specs.Counting.{xored_nonce}
use specs.Packet.{PacketFits, packet_message, sealed_packet}
use Rattle.aead_ciphers.proofs.MessageLaws.{decrypted-encrypted, length-aes_encrypted, length-aes_tag}
use Rattle.quic_packets.specs.Header.{HasSample, Protected, Unprotected, number_len}
use Rattle.quic_packets.specs.Keys.{PacketKey}
use Rattle.quic_packets.specs.Laws.{OpensTo}
use Rattle.quic_packets.specs.Packet.{HasNumber}
use Rattle.quic_packets.proofs.HeaderLemmas.{unprotected_back}

module _ (receiver : PacketKey) (number h : ℕ) (packet : List ℕ) (has : PacketFits h (length packet)) where
  abbrev key : List ℕ
  key = receiver.bytes

  abbrev nonce : List ℕ
  nonce = xored_nonce receiver.iv number

  abbrev text : List ℕ
  text = packet_message h packet

  abbrev body : List ℕ
  body = gcm_encrypted (aes key) nonce text

  abbrev its_tag : List ℕ
  its_tag = gcm_tag (aes key) nonce (take h packet) body

  abbrev whole : List ℕ
  whole = sealed_packet key nonce h packet

  length-header : length (take h packet) ≡ h
  length-header = length-take-le h packet (omega (arith, has.room))

  length-text : length text ≡ length packet - 16 - h
  length-text = length-take-le (length packet - 16 - h) (drop h packet) (omega (arith, length-drop h packet))

  front : take h whole ≡ take h packet
  front = take_at (take h packet) (body ++ its_tag) h length-header

  behind : drop h whole ≡ body ++ its_tag
  behind = drop_at (take h packet) (body ++ its_tag) h length-header

  length-behind : length (drop h whole) ≡ length body + 16
  length-behind = ap length behind ∙ length-append body its_tag
      ∙ ap (λ n. length body + n) (length-aes_tag key nonce (take h packet) body)

  middle : take (length (drop h whole) - 16) (drop h whole) ≡ body
  middle = ap (take (length (drop h whole) - 16)) behind ∙ take_at body its_tag (length (drop h whole) - 16) (omega (arith, length-behind))

  end : drop (length (drop h whole) - 16) (drop h whole) ≡ its_tag
  end = ap (drop (length (drop h whole) - 16)) behind ∙ drop_at body its_tag (length (drop h whole) - 16) (omega (arith, length-behind))

  pub length-whole : length whole ≡ length packet
  length-whole =
      length-append (take h packet) (body ++ its_tag)
      ∙ omega (arith, length-header, ap length behind, length-behind, length-aes_encrypted key nonce text, length-text, has.room)

  -- The bytes before the last 16 are a header and the bytes after it.
  before_tag : (xs : List ℕ) → take (length packet - 16) xs ≡ take h xs ++ take (length packet - 16 - h) (drop h xs)
  before_tag xs = ap (λ n. take n xs) (omega (arith, has.room)) ∙ take-add h (length packet - 16 - h) xs

  pub sealed_opens : OpensTo receiver number h whole packet
  sealed_opens = record {
    fits = subst (PacketFits h) (sym length-whole) has;
    genuine = end ∙ sym (ap₂ (gcm_tag (aes key) nonce) front middle);
    comes_back = λ opened it.
        let plain = ap (gcm_decrypted (aes key) nonce) middle ∙ decrypted-encrypted key nonce text in
        before_tag opened ∙ ap₂ (λ xs ys. xs ++ ys) (it.header ∙ front)
        (ap (take (length packet - 16 - h)) it.body.buffer ∙ take_at _ _ (length packet - 16 - h) (ap length plain ∙ length-text) ∙ plain)
        ∙ sym (before_tag packet);
  }

  -- the first byte of a sealed packet gives its number the same length
  numbered : (at : ℕ) → HasNumber at h packet → HasNumber at h whole
  numbered at has_number =
      let some : 0 < h = omega (arith, has_number.len, has_number.first_byte) in
      let first : get_or whole 0 0 ≡ get_or packet 0 0 =
      sym (get_or-take h whole 0 0 some) ∙ ap (λ xs. get_or xs 0 0) front ∙ get_or-take h packet 0 0 some in
      record { first_byte = has_number.first_byte; len = has_number.len ∙ ap (λ b. at + number_len b) (sym first) }

  -- The header is unmasked again.
  pub same_front : (header_key : HeaderKey) (at : ℕ) (wire back : List ℕ) → HasSample at (length packet) → Protected header_key at whole wire
      → Unprotected header_key at wire back → take h back ≡ take h packet
  same_front header_key at wire back has_sample p u =
      ap (take h) (unprotected_back header_key at whole wire back (subst (HasSample at) (sym length-whole) has_sample) p u) ∙ front

  pub comes_back : (header_key : HeaderKey) (at : ℕ) (wire back : List ℕ) → HasNumber at h packet → HasSample at (length packet)
      → Protected header_key at whole wire → Unprotected header_key at wire back → HasNumber at h back × OpensTo receiver number h back packet
  comes_back header_key at wire back has_number has_sample p u =
      let same : back ≡ whole = unprotected_back header_key at whole wire back (subst (HasSample at) (sym length-whole) has_sample) p u in
      subst (λ xs. HasNumber at h xs × OpensTo receiver number h xs packet) (sym same) (
        numbered at has_number,
        sealed_opens,
      )
