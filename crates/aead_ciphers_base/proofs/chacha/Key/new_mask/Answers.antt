use Rattle.std.proofs.Common.{◌≡◌, ◌<◌, ◌+◌, ℕ, List, length, take, drop, get_or, rules, arith, ap, ap₂, ◌∙◌, add-zero, get_or-drop, length-drop}
use Rattle.std.specs.Int.{w32, from_le_bytes}
use Rattle.aead_ciphers_base.specs
use specs.ChaCha20.{chacha20_block, le_bytes}
use specs.Mask.{chacha_mask}
use Rattle.aead_ciphers_base.proofs
use proofs.LittleEndian.{le_words-first, le_bytes-le_words}
use proofs.chacha.Key.new_mask.Goals as goal

pub returns : goal.returns
unfolding chacha_mask
returns c =
    let size : length c.args.sample ≡ 16 = search rules in
    let words = c.le_words.ensures ∙ le_words-first c.args.sample (omega arith) in
    let number : get_or c.le_words.result 0 0 + 0 ≡ from_le_bytes w32 (take 4 c.args.sample) = add-zero _
    ∙ ap (λ ws. get_or ws 0 0) words in
    let bytes : (i : ℕ) → get_or c.args.sample i 0 < 256 = search rules in
    let nonce : le_bytes (drop 1 c.le_words.result) ≡ drop 4 c.args.sample =
    ap (λ ws. le_bytes (drop 1 ws)) words
    ∙ le_bytes-le_words 3 (drop 4 c.args.sample) (simp length-drop (omega arith)) (λ i. rw get_or-drop (bytes (4 + i))) in
    c.copy_from_slice.ensures.after
    ∙ ap (take 5) (c.keystream_block-block.ensures ∙ ap₂ (λ (k : ℕ) (n : List ℕ). chacha20_block c.args.self.now k n) number nonce)
