use Rattle.aead_ciphers_wide.proofs.PieceLemmas.{takes_rest}
use Rattle.aead_ciphers_wide.proofs.aes_gcm.pieces.PartialHash.finish.Goals as goal

pub returns : goal.returns
returns g c bytes at = takes_rest (g.G.UpdateBlock.hash_subkey c.args.gcm.now) bytes _ c.args.self.now c.absorb.ensures at
