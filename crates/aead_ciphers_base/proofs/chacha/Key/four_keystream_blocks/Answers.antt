use Rattle.std.proofs.Common.{◌≡◌, ◌<◌, ℕ, ◌+◌, List, slice_index, slice_set, rules, ap, ◌∙◌, arith}
use Rattle.std.specs.Fn.{iterate}
use Rattle.std.specs.Simd.Lanes.{zip2}
use Rattle.aead_ciphers_base.specs.ChaCha20.{add32, double_round, initial_state}
use Rattle.aead_ciphers_base.proofs
use proofs.KeyStreamLemmas.{blocks-stream}
use proofs.chacha.Key.four_keystream_blocks.Goals as goal

pub returns : goal.returns
returns c =
    let first : ℕ = c.args.counter.now.number + c.args.j in
    let state : List ℕ = c.initial_state.result in
    let counted : (i : ℕ) → i < 4 → slice_set state 12 (add32 (slice_index state 12) i) ≡ initial_state c.args.self.now (first + i) c.args.counter.now.nonce =
    λ i h. ap (slice_set state 12) (let sum : add32 (slice_index state 12) i ≡ first + i = omega (arith, c.initial_state.ensures.word_12, c.requires) in sum)
    ∙ c.initial_state.ensures.counter_in_word_12 (first + i) in
    c.write_le_bytes.ensures
    ∙ blocks-stream _ first _ 4 c.four_blocks-words.result (search rules) (λ i k h word.
    c.four_blocks-words.ensures i k h word
    ∙ ap (λ s. slice_index (zip2 add32 (iterate double_round 10 s) s) k) (counted i h))
