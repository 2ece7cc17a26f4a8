use Rattle.std.proofs.Common.{◌≡◌, ◌∙◌, ℕ, ◌+◌, ◌-◌, ◌≤◌, length, false, true, Result, Ok, Err, refl, ap, arith}
use Rattle.std.specs.Prelude.{◌↔◌, IsErr, IsOk}
use Rattle.aead_ciphers.specs.Gcm.{Fits, tag_len}
use Rattle.aead_ciphers.specs.Packet.{PacketFits}
use Rattle.aead_ciphers.proofs.aead.less_safe_key.LessSafeKey.seal_packet_in_place.Goals as goal

-- The lengths of a packet, of its header, of the bytes after it and of the message: they are within the limits, or not.
module _ (h n header body message : ℕ) (is_header : header ≡ h) (is_body : body + h ≡ n) (is_message : message ≡ body - tag_len) where
  fits_packet : tag_len ≤ n → h ≤ n - tag_len → Fits header message → PacketFits h n
  fits_packet enough room fits = record {
    room = omega arith;
    lengths = record { aad = omega (arith, fits.aad); message = omega (arith, fits.message) };
  }

  refuses_packet : {T E : Type 0} (result : Result T E) → IsErr result → (Fits header message → false ≡ true) → IsOk result ↔ PacketFits h n
  refuses_packet (Ok x) err unfit = absurd (cc)
  refuses_packet (Err e) err unfit = (
    λ yes. absurd (cc),
    λ fits. unfit (record { aad = omega (arith, fits.lengths.aad); message = omega (arith, fits.lengths.message) }),
  )

pub returns-clause-accepted : goal.returns-clause-accepted
returns-clause-accepted g c =
    let parts = c.split_at_mut-header.ensures in (
      λ _. fits_packet c.args.header_len _ _ _ _ (ap length c.from.ensures ∙ parts.front_len) parts.back_len c.split_at_mut-message.ensures.front_len
          c.if-packet-lt-MAX_TAG_LEN.false c.if-packet-header_len.false (c.in_ok-tag.ensures.accepted.0 refl),
      λ _. refl,
    )

pub returns-in_err-tag-clause-accepted : goal.returns-in_err-tag-clause-accepted
returns-in_err-tag-clause-accepted g c =
    let parts = c.split_at_mut-header.ensures in
    refuses_packet c.args.header_len _ _ _ _ (ap length c.from.ensures ∙ parts.front_len) parts.back_len c.split_at_mut-message.ensures.front_len
    c.from_residual.result c.from_residual.ensures.0 c.in_err-tag.ensures.accepted.1
