use Rattle.std.proofs.Common.{ℕ, arith, ap, map, sym, ◌∙◌, ◌<◌, ◌+◌, ◌/◌, ◌%◌, slice_index, slice_index_or, []}
use Rattle.std.specs.Int.{to_le_bytes, w128}
use Rattle.std.proofs.lemmas.List.{get_or-map, map-id}
use Rattle.aead_ciphers_base.specs.Aes.{add_round_key, aes, cipher, shift_rows, sub_bytes}
use Rattle.aead_ciphers_base.specs.Planes.{block_at}
use Rattle.aead_ciphers_wide.specs.WidePlanes.{place_of_sixteen}
use Rattle.aead_ciphers_wide.specs.WideSchedule.{planes_of, schedule_words}
use Rattle.aead_ciphers_wide.specs.Word.{half_of, twice}
use Rattle.aead_ciphers_wide.proofs.Halves.{twice_holds}
use Rattle.aead_ciphers_wide.proofs.WideRoundKeys.{aes_of_schedule, holds_round}
use Rattle.aead_ciphers_wide.proofs.aes.KeyRef.encrypt_sixteen.Goals as goal

pub returns : goal.returns
unfolding cipher
returns c = λ k hk.
    let key = c.self.inside in
    let nr = key.rounds in
    let words = schedule_words key.round_keys.now nr in
    let block = to_le_bytes w128 (half_of (k % 2) (slice_index c.args.words (k / 2))) in
    let schedule = c.self.invariant.0 in
    let is_planes = c.self.invariant.1 in
    let holds = λ (j : ℕ) (lt : j < nr + 1). twice_holds words j k (planes_of (slice_index_or key.planes.now j [])) hk
    (holds_round key.planes.now key.round_keys.now words (nr + 1) (k / 2) j is_planes schedule.expanded (omega arith) lt) in
    c.unpack_sixteen.ensures k hk
    ∙ sym (ap (λ ps. block_at place_of_sixteen ps k) (map-id c.last_round.result))
    ∙ c.last_round.ensures k hk words nr (holds nr (omega arith))
    ∙ ap (λ s. add_round_key words nr (shift_rows (sub_bytes s)))
    (c.first_rounds-state.ensures k hk words (λ j lt.
    let held = get_or-map (λ key. map twice (planes_of key)) key.planes.now j [] [] (omega (arith, schedule.in_range)) in
    rw held (holds j (omega arith))))
    ∙ ap (λ ps. cipher words nr (block_at place_of_sixteen ps k)) (map-id c.pack_sixteen.result)
    ∙ ap (cipher words nr) (c.pack_sixteen.ensures k hk)
    ∙ aes_of_schedule key.round_keys.now nr block schedule.enough
    ∙ ap (λ key. aes key block) c.self.view_is
