use Rattle.aead_ciphers_base.proofs
use proofs.PlaneBlocks.{by_four}
use proofs.PlanePacking.{exchange_digits_is}
use proofs.aes.pack.exchange_digits.Goals as goal

pub returns : goal.returns
returns c =
    exchange_digits_is c.args.words _ c.args.k c.requires
    (by_four _ c.delta_swap-r0.ensures.first c.delta_swap-r2.ensures.first c.delta_swap-r4.ensures.first c.delta_swap-r6.ensures.first)
    (by_four _ c.delta_swap-r0.ensures.second c.delta_swap-r2.ensures.second c.delta_swap-r4.ensures.second c.delta_swap-r6.ensures.second)
