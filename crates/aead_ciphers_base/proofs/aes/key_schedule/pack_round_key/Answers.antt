use Rattle.std.proofs.Common.{arith, ◌∙◌, ap, ◌≡◌, ◌/◌, ◌%◌, ◌*◌, ◌+◌, refl, slice_index, slice_index_or, [], ◌∷◌}
use Rattle.aead_ciphers_base.specs.Aes.{word_at}
use Rattle.aead_ciphers_base.proofs
use proofs.PlaneBlocks.{by_four}
use proofs.aes.key_schedule.pack_round_key.Goals as goal

pub returns : goal.returns
returns c = λ p lt.
    let block = c.loop-k.block in
    let same = by_four (λ k. slice_index_or (c.loop-k.block ∷ c.loop-k.block ∷ c.loop-k.block ∷ c.loop-k.block ∷ []) k []
    ≡ c.loop-k.block) refl refl refl refl (p / 16) (omega arith) in
    let column : p % 16 % 4 ≡ p % 4 = omega arith in
    c.pack.ensures p lt ∙ ap (λ b. slice_index b (p % 16)) same ∙ c.loop-k.invariant.1 (p % 16) (omega arith)
    ∙ ap (slice_index (word_at c.args.words.now (4 * c.args.round + p % 16 / 4))) column
