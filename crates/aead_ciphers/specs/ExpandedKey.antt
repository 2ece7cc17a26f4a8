-- What a contract sees of an expanded AES-GCM key.
use Rattle.std.specs.Prelude.{◌≡◌, ℕ, List, replicate}
use Rattle.std.specs.Int.{to_be_bytes, w128}
use Rattle.aead_ciphers_base.specs.Aes.{aes}
use Rattle.aead_ciphers_base.specs.Bytes.{zero_block}
use Rattle.aead_ciphers_base.specs.KeySchedule.{key_of, IsSchedule}
use Rattle.aead_ciphers.specs.Multiples.{AreMultiples, entry}
use Rattle.aead_ciphers.specs.declared.aes_gcm.expanded.ExpandedKey.{ExpandedKey}

-- the bytes of the key, with which its round keys begin (FIPS 197 section 5.2)
abbrev pub bytes_of : ExpandedKey → List ℕ
bytes_of key = key_of key.round_keys key.rounds

-- the fields are those of a key: its round keys (FIPS 197 section 5.2), and the multiples of its hash subkey, which is
-- the encrypted zero block (SP 800-38D sections 6.3 and 7.1 step 1)
pub record IsExpanded (key : ExpandedKey) : Type 0 where
  pub schedule : IsSchedule key.round_keys key.rounds
  pub subkey : to_be_bytes w128 (entry key.multiples 0) ≡ aes (bytes_of key) zero_block
  pub multiples : AreMultiples (to_be_bytes w128 (entry key.multiples 0)) key.multiples

-- the fields before a key is expanded: all zeros, which no key has
abbrev pub zero_key : ExpandedKey
zero_key = record { round_keys = replicate 15 (replicate 8 0); rounds = 0; multiples = replicate 512 0 }
