use Rattle.std.proofs.Common.{rules}
use Rattle.aead_ciphers.proofs.GhashBlocks.{to_be_bytes-from_be_bytes}
use Rattle.aead_ciphers_wide.proofs.gcm.number_of_block.Goals as goal

pub returns : goal.returns
returns c = to_be_bytes-from_be_bytes c.args.block c.from_be_bytes.result (search rules) (search rules) c.from_be_bytes.ensures
