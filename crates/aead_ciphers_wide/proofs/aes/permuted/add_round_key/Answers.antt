use Rattle.std.proofs.Common.{rules}
use Rattle.aead_ciphers_wide.proofs.PermutedBlocks.{sum_is}
use Rattle.aead_ciphers_wide.proofs.aes.permuted.add_round_key.Goals as goal

pub returns : goal.returns
returns c = sum_is c.args.block c.args.round_key.now c.fits-block.0 (search rules)
