use Rattle.std.proofs.Common.{◌≡◌, [], ◌∷◌, ◌++◌, replicate, refl, sym, ◌∙◌}
use Rattle.std.specs.Int.{to_be_bytes, w128}
use Rattle.aead_ciphers_base.specs.Bytes.{zero_block}
use Rattle.aead_ciphers.specs.Gcm.{hashed, length_block, padded_block, padded_blocks}
use Rattle.aead_ciphers.proofs.GhashLaws.{IsBlock-zero}
use Rattle.aead_ciphers.proofs.GhashBlocks.{IsBlock-number}
use Rattle.aead_ciphers_tests.proofs
use proofs.TwoBlocks.{under_unit, under_zero}
use proofs.tests.laws.two_subkeys_of_two_messages.Goals as goal

hashed_15 : hashed [] (replicate 15 0) ≡ zero_block ∷ to_be_bytes w128 0x78 ∷ []
unfolding hashed padded_blocks padded_block length_block
hashed_15 = refl

hashed_16 : hashed [] (replicate 15 0 ++ 0xf8 ∷ []) ≡ to_be_bytes w128 0xf8 ∷ to_be_bytes w128 0x80 ∷ []
unfolding hashed padded_blocks padded_block length_block
hashed_16 = refl

pub returns-clause-zero : goal.returns-clause-zero
returns-clause-zero c =
    rw (hashed_15, hashed_16)
    (under_zero zero_block (to_be_bytes w128 0x78) refl refl ∙ sym (under_zero (to_be_bytes w128 0xf8) (to_be_bytes w128 0x80) refl refl))

pub returns-clause-unit : goal.returns-clause-unit
returns-clause-unit c =
    rw (hashed_15, hashed_16)
    (under_unit zero_block (to_be_bytes w128 0x78) IsBlock-zero (IsBlock-number 0x78)
    ∙ sym (under_unit (to_be_bytes w128 0xf8) (to_be_bytes w128 0x80) (IsBlock-number 0xf8) (IsBlock-number 0x80)))
