-- The check of a Retry packet that is cut into header, token and tag.
use Rattle.std.proofs.Common.{◌≡◌, ℕ, ◌+◌, ◌-◌, ◌↔◌, List, ◌++◌, length, take, drop, sym, ap, ap₂, ◌∙◌, arith, append_assoc, drop_at, length-append, length-take-le, take-append-drop, take_at}
use Rattle.key_derivation.specs.declared.quic.Version.{Version}
use Rattle.quic_packets.specs.Retry.{IsGenuineRetry, IsShortPseudoPacket, integrity_tag}

module _ (version : Version) (id header payload token tag : List ℕ) (k : ℕ) (size : k + 16 ≡ length payload) (token_is : token ≡ take k payload)
    (tag_is : tag ≡ drop k payload) where
  parts : header ++ payload ≡ (header ++ token) ++ tag
  parts =
      ap (λ xs. header ++ xs) (sym (ap₂ (λ xs ys. xs ++ ys) token_is tag_is ∙ take-append-drop k payload))
      ∙ sym (append_assoc header token tag)

  retry_len : length (header ++ token) ≡ length (header ++ payload) - 16
  retry_len =
      let many : length token ≡ k = ap length token_is ∙ length-take-le k payload (omega (arith, size)) in
      omega (arith, many, size, length-append header payload, length-append header token)

  front : take (length (header ++ payload) - 16) (header ++ payload) ≡ header ++ token
  front = ap (take _) parts ∙ take_at (header ++ token) tag _ retry_len

  back : drop (length (header ++ payload) - 16) (header ++ payload) ≡ tag
  back = ap (drop _) parts ∙ drop_at (header ++ token) tag _ retry_len

  -- The packet is genuine if its tag is that of the bytes before it.
  pub genuine : IsGenuineRetry version id (header ++ payload)
      ↔ (IsShortPseudoPacket id (header ++ token) × (tag ≡ integrity_tag version id (header ++ token)))
  genuine = (
    λ is. (rw front at is.short, rw (front, back) at is.tag),
    λ is. record {
      tagged = omega (arith, size, length-append header payload);
      short = rw front is.0;
      tag = rw (front, back) is.1;
    },
  )
