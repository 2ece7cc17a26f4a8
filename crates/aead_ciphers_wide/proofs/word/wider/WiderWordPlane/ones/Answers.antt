use Rattle.aead_ciphers_wide.proofs.WordLanes.{all_ones}
use Rattle.aead_ciphers_wide.proofs.word.wider.WiderWordPlane.ones.Goals as goal

pub returns : goal.returns
returns c = all_ones 4 c.splat.result c.splat.ensures
