use Rattle.std.proofs.Common.{ℕ, ◌<◌, ◌∙◌, ap, reverse, refl, slice_index, arith}
use Rattle.std.specs.Int.{to_le_bytes, w128}
use Rattle.aead_ciphers.proofs.GhashBlocks.{to_be_bytes-from_be_bytes}
use Rattle.aead_ciphers_wide.proofs.EightPacking.{byte_is}
use Rattle.aead_ciphers_wide.proofs.gcm.product.bytes_of_number.Goals as goal

pub returns : goal.returns
returns c =
    let n = c.args.number in
    let small : (k : ℕ) → k < 16 → slice_index (to_le_bytes w128 n) k < 256 = λ k h. omega (arith, byte_is n k h) in
    c.bytes.ensures ∙ ap (to_le_bytes w128) c.word_of.ensures
    ∙ ap reverse (to_be_bytes-from_be_bytes (to_le_bytes w128 n) c.swap_bytes.result refl small c.swap_bytes.ensures)
