use Rattle.aead_ciphers_wide.proofs.WordLanes.{all_ones}
use Rattle.aead_ciphers_wide.proofs.word.WordPlane.ones.Goals as goal

pub returns : goal.returns
returns c = all_ones 2 c.splat.result c.splat.ensures
