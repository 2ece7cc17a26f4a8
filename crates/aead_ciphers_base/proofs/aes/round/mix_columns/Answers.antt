use Rattle.std.proofs.Common.{ap, ap₂, ◌∙◌, ◌≡◌, ◌+◌, ◌*◌, ◌/◌, ◌%◌, bit_xor, map, arith}
use Rattle.aead_ciphers_base.specs
use specs.ByteField.{mul8}
use specs.Planes.{plane_byte, below}
use Rattle.aead_ciphers_base.proofs
use proofs.PlaneShifts.{mixed_is}
use proofs.PlaneBits.{plane_byte_lt}
use proofs.PlaneBlocks.{mix_block}
use proofs.aes.round.mix_columns.Goals as goal

pub returns : goal.returns
returns g c = λ k hk.
    let t = g.P.Plane in
    let place = t.place in
    let a = map t.number c.args.a in
    let byte = plane_byte (map t.number c.args.a) in
    let b_at = c.planes_one_below-b.ensures in
    let sum_at = c.add_planes-sum.ensures in
    mix_block place (t.width / 16) a (map t.number c.add_planes.result) k hk (λ r c' hr hc.
    let p = place k (r + 4 * c') in
    let q = place k (below 2 r c') in
    let once = b_at k r c' hk hr hc in
    let row : ((r + 2) % 4 + 1) % 4 ≡ (r + 3) % 4 = omega arith in
    let third = b_at k ((r + 2) % 4) c' hk (omega arith) hc ∙ ap (λ r. byte (place k (r + 4 * c'))) row in
    let doubled = c.add_planes-doubled.ensures p
    ∙ ap₂ bit_xor (c.times_x.ensures p ∙ ap (mul8 2) (sum_at p ∙ ap (bit_xor (byte p)) once)) once in
    c.add_planes.ensures p
    ∙ ap₂ bit_xor doubled (c.planes_two_below.ensures k r c' hk hr hc ∙ sum_at q ∙ ap (bit_xor (byte q)) third)
    ∙ mixed_is (byte p) (byte (place k (below 1 r c'))) (byte q) (byte (place k (below 3 r c')))
    (plane_byte_lt a (place k (below 1 r c'))))
