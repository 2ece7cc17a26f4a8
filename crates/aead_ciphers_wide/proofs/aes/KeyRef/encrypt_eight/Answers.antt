use Rattle.std.proofs.Common.{arith, ap, sym, ◌∙◌, ◌+◌, slice_index, []}
use Rattle.std.specs.Int.{to_le_bytes, w128}
use Rattle.std.proofs.lemmas.List.{get_or-map, map-id}
use Rattle.aead_ciphers_base.specs.Aes.{add_round_key, aes, cipher, shift_rows, sub_bytes}
use Rattle.aead_ciphers_base.specs.Planes.{block_at}
use Rattle.aead_ciphers_wide.specs.WidePlanes.{place_of_eight}
use Rattle.aead_ciphers_wide.specs.WideSchedule.{planes_of, schedule_words}
use Rattle.aead_ciphers_wide.proofs.WideRoundKeys.{aes_of_schedule, holds_round}
use Rattle.aead_ciphers_wide.proofs.aes.KeyRef.encrypt_eight.Goals as goal

pub returns : goal.returns
unfolding cipher
returns c = λ k hk.
    let key = c.self.inside in
    let nr = key.rounds in
    let words = schedule_words key.round_keys.now nr in
    let block = to_le_bytes w128 (slice_index c.args.words k) in
    let schedule = c.self.invariant.0 in
    let is_planes = c.self.invariant.1 in
    let holds = holds_round key.planes.now key.round_keys.now words (nr + 1) k in
    c.unpack_eight.ensures k hk
    ∙ sym (ap (λ ps. block_at place_of_eight ps k) (map-id c.last_round.result))
    ∙ c.last_round.ensures k hk words nr (holds nr is_planes schedule.expanded (omega arith) (omega arith))
    ∙ ap (λ s. add_round_key words nr (shift_rows (sub_bytes s)))
    (c.first_rounds-state.ensures k hk words (λ j lt.
    let held = get_or-map planes_of key.planes.now j [] [] (omega (arith, schedule.in_range)) in
    rw held (holds j is_planes schedule.expanded (omega arith) (omega arith))))
    ∙ ap (λ ps. cipher words nr (block_at place_of_eight ps k)) (map-id c.pack_eight.result)
    ∙ ap (cipher words nr) (c.pack_eight.ensures k hk)
    ∙ aes_of_schedule key.round_keys.now nr block schedule.enough
    ∙ ap (λ key. aes key block) c.self.view_is
