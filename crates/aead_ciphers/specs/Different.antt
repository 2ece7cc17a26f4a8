-- Blocks that have an inverse, lists of blocks that differ, and tags under a given hash subkey.
use Rattle.std.specs.Prelude.{◌≡◌, ◌≢◌, ℕ, ◌-◌, max, List, ◌∷◌, ◌++◌, length, replicate}
use Rattle.aead_ciphers_base.specs.Bytes.{◌⊕◌, zero_block}
use Rattle.aead_ciphers.specs.Gcm.{hashed}
use Rattle.aead_ciphers.specs.Ghash.{IsBlock, ◌•◌, ghash, unit_block}

-- a block has an inverse if its product with some block is the unit block (SP 800-38D section 6.3)
abbrev pub HasInverse : List ℕ → Type 0
HasInverse x = (y : List ℕ) × IsBlock y × (x • y ≡ unit_block)

-- the blocks of a list, with zero blocks before them to make n blocks in all
abbrev pub zeros_before : ℕ → List (List ℕ) → List (List ℕ)
zeros_before n blocks = replicate (n - length blocks) zero_block ++ blocks

-- two lists of blocks differ when padded: with zero blocks before the shorter one, they are not equal
abbrev pub DifferWhenPadded : List (List ℕ) → List (List ℕ) → Type 0
DifferWhenPadded left right = let n = max (length left) (length right) in zeros_before n left ≢ zeros_before n right

-- two lists of blocks differ in exactly one block: the blocks before it are equal, and so are those after it
pub record DifferInOneBlock (left right : List (List ℕ)) : Type 0 where
  pub before : List (List ℕ)
  pub after : List (List ℕ)
  pub left_block : List ℕ
  pub right_block : List ℕ
  pub differ : left_block ≢ right_block
  pub left_is : left ≡ before ++ left_block ∷ after
  pub right_is : right ≡ before ++ right_block ∷ after

-- the tag of a ciphertext under the hash subkey h, with this mask in place of the encrypted first counter block
-- (SP 800-38D section 7.1 step 6)
abbrev pub masked_tag : List ℕ → List ℕ → List ℕ → List ℕ → List ℕ
masked_tag h mask aad ciphertext = ghash h (hashed aad ciphertext) ⊕ mask
