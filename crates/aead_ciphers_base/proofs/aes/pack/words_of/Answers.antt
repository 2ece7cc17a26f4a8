use Rattle.std.proofs.Common.{rules}
use Rattle.aead_ciphers_base.proofs
use proofs.PlanePacking.{words_of_block}
use proofs.aes.pack.words_of.Goals as goal

pub returns : goal.returns
returns c = words_of_block c.args.block _ _ (search rules) (search rules) (search rules) (search rules)
