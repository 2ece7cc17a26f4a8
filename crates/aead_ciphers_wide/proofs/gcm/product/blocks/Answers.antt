use Rattle.std.proofs.Common.{◌≡◌, [], ◌∷◌, slice_index, slice_index_or}
use Rattle.std.specs.Int.{to_be_bytes, w128}
use Rattle.aead_ciphers_wide.proofs.WideBlocks.{by_eight}
use Rattle.aead_ciphers_wide.proofs.gcm.product.blocks.Goals as goal

pub returns : goal.returns
returns c =
    by_eight
    (λ k. slice_index_or (c.bytes_of_number.result ∷ c.bytes_of_number-2.result ∷ c.bytes_of_number-3.result ∷ c.bytes_of_number-4.result
    ∷ c.bytes_of_number-5.result ∷ c.bytes_of_number-6.result ∷ c.bytes_of_number-7.result ∷ c.bytes_of_number-8.result ∷ []) k []
    ≡ to_be_bytes w128 (slice_index c.args.numbers k))
    c.bytes_of_number.ensures c.bytes_of_number-2.ensures c.bytes_of_number-3.ensures c.bytes_of_number-4.ensures
    c.bytes_of_number-5.ensures c.bytes_of_number-6.ensures c.bytes_of_number-7.ensures c.bytes_of_number-8.ensures
