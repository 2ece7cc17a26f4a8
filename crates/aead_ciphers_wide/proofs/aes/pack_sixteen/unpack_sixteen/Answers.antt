use Rattle.std.proofs.Common.{◌≡◌, ℕ, ◌/◌, ◌%◌, ◌∷◌, [], ap, ◌∙◌, ◌<◌, length, sym, subst, slice_index, slice_index_or, arith}
use Rattle.std.proofs.Math.Dec.{lit<}
use Rattle.std.specs.Int.{to_le_bytes, w128}
use Rattle.std.proofs.lemmas.List.{map-id}
use Rattle.std.proofs.lemmas.Grind.{get_or_default_zero}
use Rattle.aead_ciphers_wide.specs.Word.{half_of}
use Rattle.aead_ciphers_wide.proofs.WideBlocks.{by_sixteen}
use Rattle.aead_ciphers_wide.proofs.Halves.{unpacked_sixteen}
use Rattle.aead_ciphers_wide.proofs.aes.pack_sixteen.unpack_sixteen.Goals as goal

pub returns : goal.returns
returns c =
    let words = c.transpose_bits.result in
    let size : length words ≡ 8 = omega arith in
    let at = λ (k d : ℕ) (h : k < 8). get_or_default_zero words k d (subst (λ n. k < n) (sym size) h) in
    let low = λ (w : ℕ). to_le_bytes w128 (half_of 0 w) in
    let high = λ (w : ℕ). to_le_bytes w128 (half_of 1 w) in
    let blocks =
    c.blocks_of_halves.result.0 ∷ c.blocks_of_halves.result.1
    ∷ c.blocks_of_halves-2.result.0 ∷ c.blocks_of_halves-2.result.1
    ∷ c.blocks_of_halves-3.result.0 ∷ c.blocks_of_halves-3.result.1
    ∷ c.blocks_of_halves-4.result.0 ∷ c.blocks_of_halves-4.result.1
    ∷ c.blocks_of_halves-5.result.0 ∷ c.blocks_of_halves-5.result.1
    ∷ c.blocks_of_halves-6.result.0 ∷ c.blocks_of_halves-6.result.1
    ∷ c.blocks_of_halves-7.result.0 ∷ c.blocks_of_halves-7.result.1
    ∷ c.blocks_of_halves-8.result.0 ∷ c.blocks_of_halves-8.result.1 ∷ [] in
    let held =
    by_sixteen (λ k. slice_index_or blocks k [] ≡ to_le_bytes w128 (half_of (k % 2) (slice_index words (k / 2))))
    (c.blocks_of_halves.ensures.low ∙ ap low (at 0 c.index-transpose_bits-0.result (lit< tt)))
    (c.blocks_of_halves.ensures.high ∙ ap high (at 0 c.index-transpose_bits-0.result (lit< tt)))
    (c.blocks_of_halves-2.ensures.low ∙ ap low (at 1 c.index-transpose_bits-1.result (lit< tt)))
    (c.blocks_of_halves-2.ensures.high ∙ ap high (at 1 c.index-transpose_bits-1.result (lit< tt)))
    (c.blocks_of_halves-3.ensures.low ∙ ap low (at 2 c.index-transpose_bits-2.result (lit< tt)))
    (c.blocks_of_halves-3.ensures.high ∙ ap high (at 2 c.index-transpose_bits-2.result (lit< tt)))
    (c.blocks_of_halves-4.ensures.low ∙ ap low (at 3 c.index-transpose_bits-3.result (lit< tt)))
    (c.blocks_of_halves-4.ensures.high ∙ ap high (at 3 c.index-transpose_bits-3.result (lit< tt)))
    (c.blocks_of_halves-5.ensures.low ∙ ap low (at 4 c.index-transpose_bits-4.result (lit< tt)))
    (c.blocks_of_halves-5.ensures.high ∙ ap high (at 4 c.index-transpose_bits-4.result (lit< tt)))
    (c.blocks_of_halves-6.ensures.low ∙ ap low (at 5 c.index-transpose_bits-5.result (lit< tt)))
    (c.blocks_of_halves-6.ensures.high ∙ ap high (at 5 c.index-transpose_bits-5.result (lit< tt)))
    (c.blocks_of_halves-7.ensures.low ∙ ap low (at 6 c.index-transpose_bits-6.result (lit< tt)))
    (c.blocks_of_halves-7.ensures.high ∙ ap high (at 6 c.index-transpose_bits-6.result (lit< tt)))
    (c.blocks_of_halves-8.ensures.low ∙ ap low (at 7 c.index-transpose_bits-7.result (lit< tt)))
    (c.blocks_of_halves-8.ensures.high ∙ ap high (at 7 c.index-transpose_bits-7.result (lit< tt))) in
    λ k hk. held k hk ∙ unpacked_sixteen c.args.planes words (rw (map-id c.args.planes, map-id words) at c.transpose_bits.ensures) k hk
