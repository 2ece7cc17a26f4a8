use Rattle.std.proofs.Common.{◌/◌, ◌^◌, arith}
use Rattle.std.proofs.lemmas.Nat.{and_mask}
use Rattle.aead_ciphers.proofs
use proofs.BlockLanes.{by_four}
use proofs.gcm.product.words.Goals as goal

pub returns : goal.returns
returns c =
    let n = c.args.block in
    by_four _ (omega arith) (and_mask (n / 2 ^ 64) 32) (and_mask (n / 2 ^ 32) 32) (omega (arith, and_mask n 32))
