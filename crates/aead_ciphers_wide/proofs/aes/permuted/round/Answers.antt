use Rattle.std.proofs.Common.{ap, bit_xor, ◌∙◌}
use Rattle.aead_ciphers_base.specs.Aes.{at, mix_columns, shift_rows, state}
use Rattle.aead_ciphers_wide.proofs.PermutedBlocks.{sub_is}
use Rattle.aead_ciphers_wide.proofs.aes.permuted.round.Goals as goal

pub returns : goal.returns
returns c =
    c.add_round_key.ensures
    ∙ ap (λ b. state (λ r c'. bit_xor (at b r c') (at c.args.round_key.now r c')))
    (c.mix_columns.ensures ∙ ap mix_columns (c.shift_rows.ensures
    ∙ ap shift_rows (c.sub_each.ensures ∙ sub_is c.args.block c.fits-block.0)))
