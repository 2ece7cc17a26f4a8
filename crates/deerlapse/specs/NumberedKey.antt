-- A `NumberedKey`, which is a sealer or an opener, as contracts describe it.
use Rattle.std.specs.Prelude.{◌≡◌, ℕ, ◌≤◌, ◌↔◌, Bool, List, length, replicate, IsTrue, IsFalse}
use Rattle.aead_ciphers.specs.Counting.{xored_nonce}
use Rattle.aead_ciphers_wide.specs.ExpandedKey.{HasZerosAfter, IsExpanded, bytes_of, zero_key}
use Rattle.deerlapse.specs.AesKey.{IsAesKeyLen}
use Rattle.deerlapse.specs.declared.numbered_key.NumberedKey.{NumberedKey}

-- the bytes of the key of a sealer or an opener
abbrev pub key_of : NumberedKey → List ℕ
key_of numbered = bytes_of numbered.key

-- the nonce of the next number of a sealer or an opener (RFC 8446 section 5.3)
abbrev pub next_nonce : NumberedKey → List ℕ
next_nonce numbered = xored_nonce numbered.iv numbered.next

-- a wiped sealer or opener, of which every byte is zero, so that no number is left
abbrev pub zero_numbered_key : NumberedKey
zero_numbered_key = record { key = zero_key; next = 0; limit = 0; iv = replicate 12 0; room = replicate 220 0 }

-- what a call returns that initializes a sealer or an opener, and what it leaves: it accepts the lengths of a key and a first
-- number up to the limit, and changes nothing if it refuses
pub record InitializesNumberedKey (bytes iv : List ℕ) (first limit : ℕ) (was : NumberedKey) (result : Bool) (now : NumberedKey)
    : Type 0 where
  pub accepted : IsTrue result ↔ (IsAesKeyLen (length bytes) × (first ≤ limit))
  pub key : IsTrue result → IsExpanded now.key × (key_of now ≡ bytes)
  pub unused : IsTrue result → HasZerosAfter now.key
  pub iv_is : IsTrue result → now.iv ≡ iv
  pub numbers : IsTrue result → (now.next ≡ first) × (now.limit ≡ limit)
  pub room : IsTrue result → now.room ≡ replicate 220 0
  pub refused : IsFalse result → now ≡ was
