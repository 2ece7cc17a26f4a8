use Rattle.std.proofs.Common.{arith}
use Rattle.aead_ciphers_wide.proofs.PermutedBytes.{look_up_fits, look_up_is}
use Rattle.aead_ciphers_wide.proofs.permute.look_up.Goals as goal

pub swizzle : goal.swizzle
swizzle c = look_up_fits c.args.places c.fits-places.0 c.requires

pub returns : goal.returns
returns c = look_up_is c.args.table c.args.places (omega arith) c.fits-places.0
