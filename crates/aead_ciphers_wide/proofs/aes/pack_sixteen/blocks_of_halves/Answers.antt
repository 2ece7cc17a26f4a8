use Rattle.std.proofs.Common.{◌≡◌, ◌∙◌, ap, arith, sym}
use Rattle.std.specs.Int.{to_le_bytes, w128}
use Rattle.aead_ciphers_wide.specs.Word.{half_of}
use Rattle.aead_ciphers_wide.proofs.aes.pack_sixteen.blocks_of_halves.Goals as goal

pub returns-clause-low : goal.returns-clause-low
returns-clause-low c =
    let half : half_of 0 c.args.word ≡ c.halves-low.result.0 = omega (arith, c.halves-low.ensures) in
    c.to_block.ensures ∙ ap (to_le_bytes w128) (sym half)

pub returns-clause-high : goal.returns-clause-high
returns-clause-high c =
    let half : half_of 1 c.args.word ≡ c.halves-low.result.1 = omega (arith, c.halves-low.ensures) in
    c.to_block-2.ensures ∙ ap (to_le_bytes w128) (sym half)
