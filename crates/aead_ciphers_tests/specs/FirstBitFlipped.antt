-- A cipher that is not AES: the first bit of a block is flipped. It encrypts the zero block to the unit block.
use Rattle.std.specs.Prelude.{◌≡◌, ℕ, suc, List, [], ◌∷◌, length, refl}
use Rattle.std.proofs.Common.{◌∙◌, ap, arith, sym}
use Rattle.aead_ciphers_base.specs.Bytes.{◌⊕◌}
use Rattle.aead_ciphers.specs.Ghash.{unit_block}

abbrev pub first_bit_flipped : List ℕ → List ℕ
first_bit_flipped block = block ⊕ unit_block

length-xor : (xs ys : List ℕ) → length xs ≡ length ys → length (xs ⊕ ys) ≡ length xs
length-xor [] ys e = refl
length-xor (x ∷ xs) [] e = sym e
length-xor (x ∷ xs) (y ∷ ys) e = ap suc (length-xor xs ys (omega (arith, e)))

-- an encrypted block has 16 bytes
pub length-first_bit_flipped : (block : List ℕ) → length block ≡ 16 → length (first_bit_flipped block) ≡ 16
length-first_bit_flipped block size = length-xor block unit_block size ∙ size
