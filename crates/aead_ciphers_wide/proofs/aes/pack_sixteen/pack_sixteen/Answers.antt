use Rattle.std.proofs.lemmas.List.{map-id}
use Rattle.aead_ciphers_wide.proofs.Halves.{packed_sixteen}
use Rattle.aead_ciphers_wide.proofs.aes.pack_sixteen.pack_sixteen.Goals as goal

pub returns : goal.returns
returns c =
    packed_sixteen c.args.words c.transpose_bits.result
    (rw (map-id c.args.words, map-id c.transpose_bits.result) at c.transpose_bits.ensures)
