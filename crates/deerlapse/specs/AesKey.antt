-- The keys of AES (FIPS 197) that the calls take, and the messages that are sealed in pieces under them.
use Rattle.std.specs.Prelude.{◌≡◌, ℕ, ◌⊎◌, ◌<◌, ◌≤◌, ◌↔◌, Bool, List, length, IsTrue, IsFalse}
use Rattle.aead_ciphers.specs.Gcm.{Fits}
use Rattle.aead_ciphers_wide.specs.ExpandedKey.{HasZerosAfter, IsExpanded, bytes_of, zero_key}
use Rattle.aead_ciphers_wide.specs.declared.aes_gcm.ExpandedKey.{ExpandedKey}
use Rattle.aead_ciphers_wide.specs.declared.aes_gcm.pieces.SealState.{SealState}

-- a key has 16 bytes for AES-128 and 32 bytes for AES-256 (FIPS 197 section 5)
abbrev pub IsAesKeyLen : ℕ → Type 0
IsAesKeyLen n = (n ≡ 16) ⊎ (n ≡ 32)

-- an expanded key has 10 to 14 rounds (FIPS 197 section 5)
abbrev pub HasRounds : ExpandedKey → Type 0
HasRounds key = (10 ≤ key.rounds) × (key.rounds ≤ 14)

-- a key with the rounds of AES is expanded; this holds of a key from `deerlapse_key_init`, and of zeros, which have 0 rounds
abbrev pub IsKeyOrNone : ExpandedKey → Type 0
IsKeyOrNone key = HasRounds key → IsExpanded key

-- what a call returns that expands a key from these bytes, and the key that it leaves: it accepts the lengths of a key, and
-- leaves zeros if it refuses
pub record ExpandsKey (bytes : List ℕ) (result : Bool) (now : ExpandedKey) : Type 0 where
  pub accepted : IsTrue result ↔ IsAesKeyLen (length bytes)
  pub made : IsTrue result → IsExpanded now × (bytes_of now ≡ bytes)
  pub unused : IsTrue result → HasZerosAfter now
  pub refused : IsFalse result → now ≡ zero_key

-- a message that has begun has lengths within the limits; this holds of a message from `deerlapse_key_begin`, and of zeros, which
-- have not begun
abbrev pub IsBegunOrNone : SealState → Type 0
IsBegunOrNone message = 0 < message.begun → Fits message.aad_len message.len
