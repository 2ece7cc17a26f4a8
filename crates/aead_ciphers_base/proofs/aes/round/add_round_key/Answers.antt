use Rattle.std.proofs.Common.{map, ◌/◌}
use Rattle.aead_ciphers_base.proofs
use proofs.PlaneBlocks.{add_block}
use proofs.aes.round.add_round_key.Goals as goal

pub returns : goal.returns
returns g c = λ k hk w j holds.
    let t = g.P.Plane in
    add_block t.place (t.width / 16) (map t.number c.args.a) (map t.number c.add_planes.result) k hk
    (map t.number c.args.round_key) w j holds c.add_planes.ensures
