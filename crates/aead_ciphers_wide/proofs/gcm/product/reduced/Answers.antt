use Rattle.std.proofs.Common.{◌≡◌, length, slice_index, ap, ◌∙◌, arith}
use Rattle.aead_ciphers_base.specs.Bytes.{◌⊕◌}
use Rattle.aead_ciphers_wide.specs.Products.{folded_byte}
use Rattle.aead_ciphers_wide.proofs.ByteReduction.{before_is, folded_is}
use Rattle.aead_ciphers_wide.proofs.ByteRows.{IsBlock-vector}
use Rattle.aead_ciphers_wide.proofs.gcm.product.reduced.Goals as goal

pub returns : goal.returns
returns c =
    let over = c.args.second in
    let sum = c.folded.result in
    let size : length sum ≡ 16 = omega arith in
    c.add.ensures
    ∙ ap (λ b. c.args.first ⊕ b)
    (folded_is over sum (IsBlock-vector over c.fits-second.0 c.fits-second.1) c.requires size
    (λ i h.
    c.folded.ensures i h
    ∙ ap (λ before. folded_byte before (slice_index over i)) (before_is over c.moved_by_one.result.0 c.moved_by_one.ensures.first i h)))
