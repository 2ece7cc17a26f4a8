use Rattle.std.proofs.lemmas.Nat.Bits.{bit_at_ones}
use Rattle.aead_ciphers_base.proofs.aes.plane.U64Plane.ones.Goals as goal

pub returns : goal.returns
returns c = bit_at_ones 64
