use Rattle.std.proofs.Common.{refl}
use Rattle.aead_ciphers_base.proofs
use proofs.PlanePacking.{three_exchanges, bytes_from}
use proofs.aes.pack.transpose_bytes.Goals as goal

pub returns : goal.returns
returns c =
    three_exchanges _ _ _ _ 5 4 3 bytes_from refl refl refl c.exchange_digits.ensures c.exchange_digits-2.ensures c.exchange_digits-3.ensures
