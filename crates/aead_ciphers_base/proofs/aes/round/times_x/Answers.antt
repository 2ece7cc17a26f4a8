use Rattle.std.proofs.Common.{arith, map, sym}
use Rattle.std.proofs.lemmas.List.{get_or-map}
use Rattle.aead_ciphers_base.proofs
use proofs.PlaneBits.{times_x_plane}
use proofs.aes.round.times_x.Goals as goal

pub returns : goal.returns
returns g c = λ p.
    let number = g.P.Plane.number in
    let xor_is = g.met.P.Plane.xor_is in
    let a = c.args.a in
    simp (
      sym (get_or-map number a 0 c.index-a-0.result 0 (omega arith)),
      sym (get_or-map number a 1 c.index-a-1.result 0 (omega arith)),
      sym (get_or-map number a 2 c.index-a-2.result 0 (omega arith)),
      sym (get_or-map number a 3 c.index-a-3.result 0 (omega arith)),
      sym (get_or-map number a 4 c.index-a-4.result 0 (omega arith)),
      sym (get_or-map number a 5 c.index-a-5.result 0 (omega arith)),
      sym (get_or-map number a 6 c.index-a-6.result 0 (omega arith)),
      sym (get_or-map number a 7 c.index-a-7.result 0 (omega arith)),
      xor_is _ _ _ c.bitxor.ensures,
      xor_is _ _ _ c.bitxor-2.ensures,
      xor_is _ _ _ c.bitxor-3.ensures,
    ) (times_x_plane (map number a) p)
