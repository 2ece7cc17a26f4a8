use Rattle.aead_ciphers_base.proofs
use proofs.PlaneBlocks.{by_four}
use proofs.PlanePacking.{packed_byte}
use proofs.aes.pack.pack.Goals as goal

pub returns : goal.returns
returns c =
    packed_byte _ _ _ c.args.blocks c.transpose_bytes.ensures c.transpose_bits.ensures
    (by_four _ c.words_of-w0.ensures c.words_of-w2.ensures c.words_of-w4.ensures c.words_of-w6.ensures)
