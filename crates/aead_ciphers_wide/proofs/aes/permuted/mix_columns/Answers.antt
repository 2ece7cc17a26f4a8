use Rattle.aead_ciphers_wide.proofs.PermutedBlocks.{mixed_columns}
use Rattle.aead_ciphers_wide.proofs.aes.permuted.mix_columns.Goals as goal

pub returns : goal.returns
returns c =
    mixed_columns c.args.block c.rows_up_by_one-below.result c.times_x.result c.rows_up_by_two.result c.fits-block
    c.rows_up_by_one-below.ensures c.times_x.ensures c.rows_up_by_two.ensures
