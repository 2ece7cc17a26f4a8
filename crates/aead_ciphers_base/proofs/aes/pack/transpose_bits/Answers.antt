use Rattle.std.proofs.Common.{refl}
use Rattle.aead_ciphers_base.proofs
use proofs.PlanePacking.{three_exchanges, bits_from}
use proofs.aes.pack.transpose_bits.Goals as goal

pub returns : goal.returns
returns c =
    three_exchanges _ _ _ _ 2 1 0 bits_from refl refl refl c.exchange_digits.ensures c.exchange_digits-2.ensures c.exchange_digits-3.ensures
