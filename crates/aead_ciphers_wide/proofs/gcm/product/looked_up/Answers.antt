use Rattle.std.proofs.Common.{◌≡◌, ◌∙◌, bit_xor, length, slice_index, ap, ap₂, arith}
use Rattle.aead_ciphers_wide.proofs.ByteRows.{sum_byte}
use Rattle.aead_ciphers_wide.proofs.Places.{looked_up_at}
use Rattle.aead_ciphers_wide.proofs.gcm.product.looked_up.Goals as goal

pub returns : goal.returns
returns c = λ i h.
    let one = c.look_up.result in
    let two = c.look_up-2.result in
    let size_one : length one ≡ 16 = omega arith in
    let size_two : length two ≡ 16 = omega arith in
    sum_byte one two c.add.result i size_one size_two c.add.ensures h
    ∙ ap₂ bit_xor
    (ap (λ v. slice_index v i) c.look_up.ensures ∙ looked_up_at c.table_row.result c.args.high i c.fits-high.0 h ∙ c.table_row.ensures (slice_index c.args.high i) (c.requires.high i h))
    (ap (λ v. slice_index v i) c.look_up-2.ensures ∙ looked_up_at c.table_row-2.result c.args.low i c.fits-low.0 h ∙ c.table_row-2.ensures (slice_index c.args.low i) (c.requires.low i h))
