use Rattle.std.proofs.Common.{ℕ, List, refl, ap, ◌∙◌}
use Rattle.aead_ciphers_base.specs.Bytes.{◌⊕◌, zero_block}
use Rattle.aead_ciphers.specs.Ghash.{ghash, unit_block}
use Rattle.aead_ciphers.proofs.GhashLaws.{product_comm, product_unit, xor_zero}
use Rattle.aead_ciphers_tests.proofs.tests.laws.one_key_of_one_block.Goals as goal

pub returns : goal.returns
unfolding ghash
returns c h is_h =
    ap (λ (x : List ℕ). (x ⊕ zero_block) ⊕ zero_block) (product_comm unit_block h refl is_h.size ∙ product_unit h is_h)
    ∙ ap (λ (x : List ℕ). x ⊕ zero_block) (xor_zero h is_h.size) ∙ xor_zero h is_h.size
