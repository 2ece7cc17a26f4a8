use Rattle.std.proofs.Common.{ℕ, ◌≡◌, ◌+◌, ◌*◌, ◌/◌, ◌%◌, [], ◌∷◌, ◌++◌, ◌∙◌, ap₂, arith, bit_xor, get_or, refl, slice_index_or}
use Rattle.aead_ciphers_base.specs.Bytes.{each_below}
use Rattle.aead_ciphers_base.proofs.PlaneBlocks.{by_four}
use Rattle.aead_ciphers_base.proofs.EachLemmas.{each-same}
use Rattle.aead_ciphers_wide.proofs.TableRows.{joined_first}
use Rattle.aead_ciphers_wide.proofs.gcm.product.four_rows.Goals as goal

pub returns : goal.returns
returns c = λ j less.
    let high = c.args.high in
    let low = c.args.low in
    let byte = λ (j n : ℕ). bit_xor (get_or (high ++ high) (4 * j + n / 4) 0) (get_or (low ++ low) (4 * j + n % 4) 0) in
    let made = λ (j : ℕ). each_below 16 (byte j) in
    by_four (λ j. slice_index_or (made 0 ∷ made 1 ∷ made 2 ∷ made 3 ∷ []) j [] ≡ made j) refl refl refl refl j less
    ∙ each-same 16 (byte j) _ (λ n within.
    ap₂ bit_xor (joined_first high high (4 * j + n / 4) c.fits-high.0 (omega arith))
    (joined_first low low (4 * j + n % 4) c.fits-low.0 (omega arith)))
