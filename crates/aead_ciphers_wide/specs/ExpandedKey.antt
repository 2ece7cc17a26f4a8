-- What a contract sees of an expanded AES-GCM key that is plain data.
use Rattle.std.specs.Prelude.{◌≡◌, ℕ, ◌+◌, List, replicate}
use Rattle.aead_ciphers_base.specs.Aes.{aes}
use Rattle.aead_ciphers_base.specs.Bytes.{zero_block}
use Rattle.aead_ciphers_wide.specs.WideSchedule.{AreZerosAfter, HoldsPlanes, IsSchedule, key_of}
use Rattle.aead_ciphers_wide.specs.Products.{ArePowers, subkey as products_subkey}
use Rattle.aead_ciphers_wide.specs.declared.aes_gcm.ExpandedKey.{ExpandedKey}

-- the bytes of the key, with which its round keys begin (FIPS 197 section 5.2)
abbrev pub bytes_of : ExpandedKey → List ℕ
bytes_of key = key_of key.round_keys key.rounds

-- the fields are those of a key: its round keys (FIPS 197 section 5.2) and their planes, and the products of its hash subkey and of the
-- square of it, where the subkey is the encrypted zero block (SP 800-38D sections 6.3 and 7.1 step 1)
pub record IsExpanded (key : ExpandedKey) : Type 0 where
  pub schedule : IsSchedule key.round_keys key.rounds
  pub planes : HoldsPlanes key.planes key.round_keys (key.rounds + 1)
  pub subkey : products_subkey key.products ≡ aes (bytes_of key) zero_block
  pub products : ArePowers key.products key.squares

-- the places after the last round key and after its planes, which a key of fewer rounds doesn't use, are zeros
pub record HasZerosAfter (key : ExpandedKey) : Type 0 where
  pub round_keys : AreZerosAfter key.round_keys key.rounds
  pub planes : AreZerosAfter key.planes key.rounds

-- the fields before a key is expanded: all zeros, which no key has
abbrev pub zero_key : ExpandedKey
zero_key = record {
  planes = replicate 15 (replicate 16 0);
  round_keys = replicate 15 (replicate 16 0);
  rounds = 0;
  width = 0;
  products = replicate 512 0;
  squares = replicate 512 0;
}
