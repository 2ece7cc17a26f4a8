use Rattle.std.proofs.Common.{ap, map, ◌∙◌, ◌/◌}
use Rattle.aead_ciphers_base.specs.Aes.{add_round_key, shift_rows}
use Rattle.aead_ciphers_base.proofs
use proofs.PlaneBlocks.{sub_block}
use proofs.aes.bit_sliced.last_round.Goals as goal

pub returns : goal.returns
returns g c = λ k hk w j holds.
    let t = g.P.Plane in
    c.add_round_key.ensures k hk w j (rw c.planes.ensures holds)
    ∙ ap (add_round_key w j)
    (c.shift_rows.ensures k hk
    ∙ ap shift_rows (sub_block t.place (t.width / 16) (map t.number c.args.planes) (map t.number c.sub_bytes.result) k hk
    t.width g.met.P.Plane.place_within c.sub_bytes.ensures))
