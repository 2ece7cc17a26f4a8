-- HMAC (RFC 2104).
use Rattle.std.specs.Prelude.{ℕ, ◌-◌, ◌++◌, List, length, map, replicate, bit_xor, nat_lt, if◌then◌else◌}
use Rattle.key_derivation.specs.Hash.{HashFunction}

-- the key, or its digest if it is longer than a block (section 2)
abbrev pub short_key : HashFunction → List ℕ → List ℕ
short_key h key = if nat_lt h.block_len (length key) then h.hash key else key

-- the short key with zeros after it, up to the length of a block (section 2, step 1)
abbrev pub block_key : HashFunction → List ℕ → List ℕ
block_key h key = let short = short_key h key in short ++ replicate (h.block_len - length short) 0

-- the block of the key, XORed with ipad (section 2, step 2)
unfoldable pub inner_block : HashFunction → List ℕ → List ℕ
inner_block h key = map (bit_xor 0x36) (block_key h key)

-- the block of the key, XORed with opad (section 2, step 5)
unfoldable pub outer_block : HashFunction → List ℕ → List ℕ
outer_block h key = map (bit_xor 0x5c) (block_key h key)

-- H(K XOR opad, H(K XOR ipad, text)) (section 2)
unfoldable pub hmac : HashFunction → (key text : List ℕ) → List ℕ
hmac h key text = h.hash (outer_block h key ++ h.hash (inner_block h key ++ text))
