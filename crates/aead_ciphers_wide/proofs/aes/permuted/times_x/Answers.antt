use Rattle.aead_ciphers_wide.proofs.PermutedBytes.{times_x_is}
use Rattle.aead_ciphers_wide.proofs.aes.permuted.times_x.Goals as goal

pub returns : goal.returns
returns c = times_x_is c.args.bytes c.fits-bytes
