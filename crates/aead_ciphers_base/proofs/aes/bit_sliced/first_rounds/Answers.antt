use Rattle.std.proofs.Common.{arith, ap, sym, map, ◌∙◌, ◌≡◌, ◌-◌, ◌/◌, []}
use Rattle.std.proofs.lemmas.List.{get_or-map}
use Rattle.aead_ciphers_base.specs.Aes.{add_round_key, mix_columns, shift_rows, sub_bytes, rounds}
use Rattle.aead_ciphers_base.specs.Planes.{block_at}
use Rattle.aead_ciphers_base.proofs
use proofs.RoundKeys.{rounds_more}
use proofs.PlaneBlocks.{sub_block}
use proofs.aes.bit_sliced.first_rounds.Goals as goal

pub loop-round-init : goal.loop-round-init
unfolding rounds
loop-round-init g c = λ k hk w holds.
    let held = g.K.RoundKeyPlanes.held in
    let key = c.planes.ensures ∙ ap held c.index-round_keys-0.is
    ∙ sym (get_or-map held c.args.round_keys.now 0 _ [] (omega arith)) in
    c.add_round_key-state.ensures k hk w 0 (rw key (holds 0 (omega arith)))

pub loop-round-preserved : goal.loop-round-preserved
loop-round-preserved g c = λ k hk w holds.
    let t = g.P.Plane in
    let held = g.K.RoundKeyPlanes.held in
    let round = c.loop-round.round in
    let key = c.planes-in-loop-round.ensures ∙ ap held c.index-round_keys-round.is
    ∙ sym (get_or-map held c.args.round_keys.now c.loop-round.round _ [] (omega arith)) in
    c.add_round_key-state-in-loop-round.ensures k hk w round (rw key (holds round (omega arith)))
    ∙ ap (add_round_key w round)
    (c.mix_columns.ensures k hk
    ∙ ap mix_columns (c.shift_rows.ensures k hk
    ∙ ap shift_rows (sub_block t.place (t.width / 16) (map t.number c.loop-round.state) (map t.number c.sub_bytes.result) k hk
    t.width g.met.P.Plane.place_within c.sub_bytes.ensures
    ∙ ap sub_bytes (c.loop-round.invariant k hk w holds))))
    ∙ sym (rounds_more w (block_at t.place (map t.number c.args.planes) k) round (omega arith))

pub returns : goal.returns
returns g c = λ k hk w holds.
    let t = g.P.Plane in
    let whole : c.loop-round.round - 1 ≡ c.args.last - 1 = omega arith in
    c.loop-round.invariant k hk w holds ∙ ap (rounds w (block_at t.place (map t.number c.args.planes) k)) whole
