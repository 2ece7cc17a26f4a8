-- HKDF (RFC 5869), and HKDF-Expand-Label and Derive-Secret of TLS 1.3 (RFC 8446 section 7.1).
use Rattle.std.specs.Prelude.{ℕ, zero, suc, ◌≤◌, List, [], ◌∷◌, ◌++◌, length, codes}
use Rattle.std.specs.Int.{to_be_bytes, w16}
use Rattle.key_derivation.specs.Blocks.{first_bytes}
use Rattle.key_derivation.specs.Hash.{HashFunction}
use Rattle.key_derivation.specs.Hmac.{hmac}

-- HKDF-Extract (section 2.2)
abbrev pub hkdf_extract : HashFunction → (salt ikm : List ℕ) → List ℕ
hkdf_extract h salt ikm = hmac h salt ikm

-- T(n) (section 2.3)
unfoldable pub hkdf_block : HashFunction → (prk info : List ℕ) → ℕ → List ℕ
hkdf_block h prk info zero = []
hkdf_block h prk info (suc n) = hmac h prk (hkdf_block h prk info n ++ info ++ suc n ∷ [])

-- HKDF-Expand (section 2.3)
abbrev pub hkdf_expand : HashFunction → (prk info : List ℕ) → (len : ℕ) → List ℕ
hkdf_expand h prk info len = first_bytes (hkdf_block h prk info) h.output_len len

-- a vector of at most 255 bytes: its length and its bytes (RFC 8446 section 3.4)
abbrev pub vector_8 : List ℕ → List ℕ
vector_8 bytes = length bytes ∷ bytes

-- a label that may be given: with "tls13 " before it, it has 7 to 255 bytes (RFC 8446 section 7.1)
abbrev pub IsLabel : List ℕ → Type 0
IsLabel label = (1 ≤ length label) × (length label ≤ 249)

-- HkdfLabel: the length as uint16, the label after "tls13 ", the context (RFC 8446 section 7.1)
abbrev pub hkdf_label : (label context : List ℕ) → (len : ℕ) → List ℕ
hkdf_label label context len = to_be_bytes w16 len ++ vector_8 (codes "tls13 " ++ label) ++ vector_8 context

-- HKDF-Expand-Label (RFC 8446 section 7.1)
abbrev pub hkdf_expand_label : HashFunction → (secret label context : List ℕ) → (len : ℕ) → List ℕ
hkdf_expand_label h secret label context len = hkdf_expand h secret (hkdf_label label context len) len

-- Derive-Secret, of the Transcript-Hash of the messages (RFC 8446 section 7.1)
abbrev pub derive_secret : HashFunction → (secret label transcript_hash : List ℕ) → List ℕ
derive_secret h secret label transcript_hash = hkdf_expand_label h secret label transcript_hash h.output_len
