-- PBKDF2 with HMAC (RFC 8018 section 5.2).
use Rattle.std.specs.Prelude.{ℕ, zero, suc, List, [], ◌∷◌, ◌++◌, replicate, bit_xor}
use Rattle.std.specs.Int.{to_be_bytes, w32}
use Rattle.key_derivation.specs.Blocks.{first_bytes}
use Rattle.key_derivation.specs.Hash.{HashFunction}
use Rattle.key_derivation.specs.Hmac.{hmac}

infixl 60 ◌⊕◌
-- the XOR of two lists, byte by byte
abbrev pub ◌⊕◌ : List ℕ → List ℕ → List ℕ
[] ⊕ ys = []
(x ∷ xs) ⊕ [] = []
(x ∷ xs) ⊕ (y ∷ ys) = bit_xor x y ∷ (xs ⊕ ys)

-- U n of the block with this index, where U 0 is S || INT (i): U 1 = PRF (P, S || INT (i)), U 2 = PRF (P, U 1)
unfoldable pub pbkdf2_u : HashFunction → (password salt : List ℕ) → (index : ℕ) → ℕ → List ℕ
pbkdf2_u h password salt index zero = salt ++ to_be_bytes w32 index
pbkdf2_u h password salt index (suc n) = hmac h password (pbkdf2_u h password salt index n)

-- U 1 ⊕ .. ⊕ U n
unfoldable pub pbkdf2_sum : HashFunction → (password salt : List ℕ) → (index : ℕ) → ℕ → List ℕ
pbkdf2_sum h password salt index zero = replicate h.output_len 0
pbkdf2_sum h password salt index (suc n) = pbkdf2_sum h password salt index n ⊕ pbkdf2_u h password salt index (suc n)

-- T_1 | T_2 | .., where T_i = F (P, S, c, i), cut to `len` bytes
abbrev pub pbkdf2 : HashFunction → (password salt : List ℕ) → (count len : ℕ) → List ℕ
pbkdf2 h password salt count len = first_bytes (λ index. pbkdf2_sum h password salt index count) h.output_len len
