use Rattle.std.proofs.lemmas.List.{map-id}
use Rattle.aead_ciphers_wide.proofs.EightPacking.{packed_eight}
use Rattle.aead_ciphers_wide.proofs.aes.pack_eight.pack_eight.Goals as goal

pub returns : goal.returns
returns c =
    packed_eight c.args.words c.transpose_bits.result
    (rw (map-id c.args.words, map-id c.transpose_bits.result) at c.transpose_bits.ensures)
