-- GHASH of two blocks under the zero block and under the unit block.
use Rattle.std.proofs.Common.{◌≡◌, List, [], ◌∷◌, ℕ, refl, ap, ap₂, ◌∙◌}
use Rattle.aead_ciphers_base.specs.Bytes.{◌⊕◌, zero_block}
use Rattle.aead_ciphers.specs.Ghash.{IsBlock, ◌•◌, ghash, unit_block}
use Rattle.aead_ciphers.proofs.GhashLaws.{IsBlock-unit, product_zero, Sized, product_unit}

pub under_zero : (x y : List ℕ) → Sized x → Sized y → ghash zero_block (x ∷ y ∷ []) ≡ zero_block
unfolding ghash
under_zero x y sx sy =
    ap₂ (λ (u v : List ℕ). u ⊕ (v ⊕ zero_block))
    (ap (λ (u : List ℕ). x • u) (product_zero zero_block refl) ∙ product_zero x sx) (product_zero y sy)

pub under_unit : (x y : List ℕ) → IsBlock x → IsBlock y → ghash unit_block (x ∷ y ∷ []) ≡ x ⊕ (y ⊕ zero_block)
unfolding ghash
under_unit x y is_x is_y =
    ap₂ (λ (u v : List ℕ). u ⊕ (v ⊕ zero_block))
    (ap (λ (u : List ℕ). x • u) (product_unit unit_block IsBlock-unit) ∙ product_unit x is_x) (product_unit y is_y)
