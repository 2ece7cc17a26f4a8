-- What a contract sees of an expanded key of XAES-256-GCM that is plain data.
use Rattle.std.specs.Prelude.{◌≡◌, ◌==◌, ℕ, List, replicate, if◌then◌else◌}
use Rattle.aead_ciphers_base.specs.Aes.{aes}
use Rattle.aead_ciphers_base.specs.Bytes.{zero_block}
use Rattle.aead_ciphers_wide.specs.WideSchedule.{IsSchedule, key_of}
use Rattle.xaes.specs.Derivation.{first_subkey}
use Rattle.xaes.specs.declared.expanded.ExpandedKey.{ExpandedKey}

-- the bytes of the key, with which its round keys begin (FIPS 197 section 5.2)
abbrev pub bytes_of : ExpandedKey → List ℕ
bytes_of key = key_of key.round_keys key.rounds

-- the fields are those of a key: its round keys, of 14 rounds, and the first subkey of CMAC under it (SP 800-38B section 6.1)
pub record IsExpanded (key : ExpandedKey) : Type 0 where
  pub rounds : key.rounds ≡ 14
  pub schedule : IsSchedule key.round_keys key.rounds
  pub subkey : key.subkey ≡ first_subkey (aes (bytes_of key) zero_block)

-- the width of the planes on which batches of a message are encrypted, in bits
abbrev pub message_width : ExpandedKey → ℕ
message_width key = if key.width == 256 then 256 else 128

-- the fields before a key is expanded: all zeros, which no key has
abbrev pub zero_key : ExpandedKey
zero_key = record { rounds = 0; width = 0; round_keys = replicate 15 (replicate 16 0); subkey = replicate 16 0 }
