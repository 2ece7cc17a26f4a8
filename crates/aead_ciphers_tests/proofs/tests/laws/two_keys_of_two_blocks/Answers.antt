use Rattle.std.proofs.Common.{refl, ap₂}
use Rattle.aead_ciphers_base.specs.Bytes.{◌⊕◌, zero_block}
use Rattle.aead_ciphers.specs.Ghash.{unit_block}
use Rattle.aead_ciphers.proofs.GhashLaws.{IsBlock-unit, IsBlock-zero, product_unit}
use Rattle.aead_ciphers_tests.proofs
use proofs.TwoBlocks.{under_unit, under_zero}
use proofs.tests.laws.two_keys_of_two_blocks.Goals as goal

pub returns-clause-apart : goal.returns-clause-apart
returns-clause-apart c = (unit_block, IsBlock-unit, product_unit unit_block IsBlock-unit)

pub returns-clause-zero : goal.returns-clause-zero
returns-clause-zero c = ap₂ ◌⊕◌ (under_zero unit_block unit_block refl refl) (under_zero zero_block zero_block refl refl)

pub returns-clause-unit : goal.returns-clause-unit
returns-clause-unit c =
    ap₂ ◌⊕◌ (under_unit unit_block unit_block IsBlock-unit IsBlock-unit) (under_unit zero_block zero_block IsBlock-zero IsBlock-zero)
