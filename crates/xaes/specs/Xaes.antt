-- XAES-256-GCM (a specification of C2SP, c2sp.org/XAES-256-GCM): a key of 32 bytes and a nonce of 24. A message is sealed by AES-256-GCM
-- (NIST SP 800-38D) under a key that is derived for the first 12 bytes of the nonce, and the last 12 bytes as the nonce.
use Rattle.std.specs.Prelude.{ℕ, Bool, List, take, drop}
use Rattle.aead_ciphers_base.specs.Aes.{aes}
use Rattle.aead_ciphers.specs.Gcm.{gcm_decrypted, gcm_encrypted, gcm_sealed, gcm_tag, Opened, OpenedAttached}
use Rattle.xaes.specs.Derivation.{derived_key}

-- the AES-256-GCM key of a message
abbrev pub message_key : (key nonce : List ℕ) → List ℕ
message_key key nonce = derived_key key (take 12 nonce)

-- the AES-256-GCM nonce of a message
abbrev pub message_nonce : (nonce : List ℕ) → List ℕ
message_nonce nonce = drop 12 nonce

module _ (key nonce : List ℕ) where
  -- the ciphertext of a plaintext
  abbrev pub xaes_encrypted : (plaintext : List ℕ) → List ℕ
  xaes_encrypted plaintext = gcm_encrypted (aes (message_key key nonce)) (message_nonce nonce) plaintext

  -- the plaintext of a ciphertext
  abbrev pub xaes_decrypted : (ciphertext : List ℕ) → List ℕ
  xaes_decrypted ciphertext = gcm_decrypted (aes (message_key key nonce)) (message_nonce nonce) ciphertext

  module _ (aad : List ℕ) where
    -- the tag of a ciphertext
    abbrev pub xaes_tag : (ciphertext : List ℕ) → List ℕ
    xaes_tag ciphertext = gcm_tag (aes (message_key key nonce)) (message_nonce nonce) aad ciphertext

    -- the ciphertext of a plaintext followed by its tag
    abbrev pub xaes_sealed : (plaintext : List ℕ) → List ℕ
    xaes_sealed plaintext = gcm_sealed (aes (message_key key nonce)) (message_nonce nonce) aad plaintext

    -- whether opening accepts, and what the buffer then holds, if the tag is received separately (`Opens` of `Gcm.antt`)
    abbrev pub XaesOpened : (tag : List ℕ) (start : ℕ) (old : List ℕ) (accepts : Bool) (new : List ℕ) → Type 0
    XaesOpened tag start old accepts new =
        Opened (aes (message_key key nonce)) (message_nonce nonce) aad tag start old accepts new

    -- whether opening accepts, and what the buffer then holds, if the tag is the end of the buffer (`OpenedAttached` of `Gcm.antt`)
    abbrev pub XaesOpenedAttached : (start : ℕ) (old : List ℕ) (accepts : Bool) (new : List ℕ) → Type 0
    XaesOpenedAttached start old accepts new =
        OpenedAttached (aes (message_key key nonce)) (message_nonce nonce) aad start old accepts new
