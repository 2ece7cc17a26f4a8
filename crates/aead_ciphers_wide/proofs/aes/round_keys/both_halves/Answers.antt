use Rattle.std.proofs.Common.{arith}
use Rattle.aead_ciphers_wide.proofs.aes.round_keys.both_halves.Goals as goal

pub returns : goal.returns
returns c = omega (arith, c.new-half.ensures, c.new.ensures)
