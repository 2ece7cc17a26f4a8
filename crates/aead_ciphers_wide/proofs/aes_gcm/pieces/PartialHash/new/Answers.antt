use Rattle.std.proofs.Common.{refl}
use Rattle.aead_ciphers_wide.proofs.PieceLemmas.{takes_none}
use Rattle.aead_ciphers_wide.proofs.aes_gcm.pieces.PartialHash.new.Goals as goal

pub returns-clause-taken : goal.returns-clause-taken
returns-clause-taken c h = takes_none h _ refl refl
