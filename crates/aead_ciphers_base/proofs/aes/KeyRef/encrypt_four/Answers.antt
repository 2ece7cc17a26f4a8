use Rattle.std.proofs.Common.{arith, ap, ap₂, sym, ◌∙◌, ◌≡◌, ◌+◌, ◌/◌, ◌%◌, slice_index, slice_index_or, []}
use Rattle.std.proofs.lemmas.List.{map-id}
use Rattle.aead_ciphers_base.specs.Aes.{add_round_key, aes, cipher, shift_rows, sub_bytes}
use Rattle.aead_ciphers_base.specs.Planes.{block_at, place_of_four}
use Rattle.aead_ciphers_base.proofs
use proofs.RoundKeys.{aes_of_schedule, holds_round, schedule_words}
use proofs.PlaneBlocks.{packed_block}
use proofs.aes.KeyRef.encrypt_four.Goals as goal

pub returns : goal.returns
unfolding cipher
returns c = λ k hk.
    let key = c.self.inside in
    let nr = key.rounds in
    let words = schedule_words key.round_keys.now nr in
    let block = slice_index_or c.args.blocks k [] in
    let expanded = c.self.invariant.expanded in
    let holds = holds_round key.round_keys.now words (nr + 1) k in
    let same_keys = map-id key.round_keys.now in
    c.unpack.ensures k hk
    ∙ sym (ap (λ ps. block_at place_of_four ps k) (map-id c.last_round.result))
    ∙ c.last_round.ensures k hk words nr (holds nr expanded (omega arith) (omega arith))
    ∙ ap (λ s. add_round_key words nr (shift_rows (sub_bytes s)))
    (c.first_rounds-state.ensures k hk words (λ j lt. rw same_keys (holds j expanded (omega arith) (omega arith))))
    ∙ ap (λ ps. cipher words nr (block_at place_of_four ps k)) (map-id c.pack.result)
    ∙ packed_block place_of_four c.pack.result block words nr k (λ j lt.
    let at_block : place_of_four k j / 16 ≡ k = omega arith in
    let at_byte : place_of_four k j % 16 ≡ j = omega arith in
    c.pack.ensures (place_of_four k j) (omega arith)
    ∙ ap₂ (λ i t. slice_index (slice_index_or c.args.blocks i []) t) at_block at_byte)
    ∙ aes_of_schedule key.round_keys.now nr block c.self.invariant.enough
    ∙ ap (λ key. aes key block) c.self.view_is
