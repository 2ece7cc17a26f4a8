use Rattle.std.proofs.Common.{sym, [], ◌∷◌}
use Rattle.aead_ciphers_base.proofs
use proofs.PlaneBlocks.{by_four}
use proofs.PlanePacking.{unpacked_block}
use proofs.aes.pack.unpack.Goals as goal

pub returns : goal.returns
returns c =
    unpacked_block _ _ _
    (c.block_of.result ∷ c.block_of-2.result ∷ c.block_of-3.result ∷ c.block_of-4.result ∷ []) c.transpose_bits.ensures c.transpose_bytes.ensures
    (by_four _ (sym c.block_of.ensures) (sym c.block_of-2.ensures) (sym c.block_of-3.ensures) (sym c.block_of-4.ensures))
