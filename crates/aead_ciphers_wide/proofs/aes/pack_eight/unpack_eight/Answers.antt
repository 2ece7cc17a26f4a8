use Rattle.std.proofs.Common.{◌≡◌, ℕ, ◌<◌, ◌∷◌, [], length, sym, subst, ap, ◌∙◌, slice_index, slice_index_or, arith}
use Rattle.std.proofs.Math.Dec.{lit<}
use Rattle.std.specs.Int.{to_le_bytes, w128}
use Rattle.std.proofs.lemmas.List.{map-id}
use Rattle.std.proofs.lemmas.Grind.{get_or_default_zero}
use Rattle.aead_ciphers_wide.proofs.WideBlocks.{by_eight}
use Rattle.aead_ciphers_wide.proofs.EightPacking.{unpacked_eight}
use Rattle.aead_ciphers_wide.proofs.aes.pack_eight.unpack_eight.Goals as goal

pub returns : goal.returns
returns c =
    let words = c.transpose_bits.result in
    let size : length words ≡ 8 = omega arith in
    let at = λ (k d : ℕ) (h : k < 8). get_or_default_zero words k d (subst (λ n. k < n) (sym size) h) in
    let bytes = to_le_bytes w128 in
    let blocks =
    c.to_block.result ∷ c.to_block-2.result ∷ c.to_block-3.result ∷ c.to_block-4.result
    ∷ c.to_block-5.result ∷ c.to_block-6.result ∷ c.to_block-7.result ∷ c.to_block-8.result ∷ [] in
    let held =
    by_eight (λ k. slice_index_or blocks k [] ≡ to_le_bytes w128 (slice_index words k))
    (c.to_block.ensures ∙ ap bytes (at 0 c.index-transpose_bits-0.result (lit< tt)))
    (c.to_block-2.ensures ∙ ap bytes (at 1 c.index-transpose_bits-1.result (lit< tt)))
    (c.to_block-3.ensures ∙ ap bytes (at 2 c.index-transpose_bits-2.result (lit< tt)))
    (c.to_block-4.ensures ∙ ap bytes (at 3 c.index-transpose_bits-3.result (lit< tt)))
    (c.to_block-5.ensures ∙ ap bytes (at 4 c.index-transpose_bits-4.result (lit< tt)))
    (c.to_block-6.ensures ∙ ap bytes (at 5 c.index-transpose_bits-5.result (lit< tt)))
    (c.to_block-7.ensures ∙ ap bytes (at 6 c.index-transpose_bits-6.result (lit< tt)))
    (c.to_block-8.ensures ∙ ap bytes (at 7 c.index-transpose_bits-7.result (lit< tt))) in
    λ k hk. held k hk ∙ unpacked_eight c.args.planes words (rw (map-id c.args.planes, map-id words) at c.transpose_bits.ensures) k hk
