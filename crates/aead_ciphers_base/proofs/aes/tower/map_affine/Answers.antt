use Rattle.std.proofs.Common.{arith, map, sym, ap, ◌==◌}
use Rattle.std.proofs.lemmas.List.{get_or-map}
use Rattle.aead_ciphers_base.specs.Planes.{plane_byte, plane_polynomial}
use Rattle.aead_ciphers_base.proofs
use proofs.PlaneBits.{set-xor}
use proofs.TowerCoordinates.{affine_is}
use proofs.aes.tower.map_affine.Goals as goal

pub returns : goal.returns
unfolding plane_byte plane_polynomial
returns g c = λ p lt.
    let number = g.W.Plane.number in
    let laws = g.met.W.Plane in
    let a = c.args.a in
    let ones = ap (λ t. t == 1) (c.ones-ones.ensures p lt) in
    simp (
      sym (get_or-map number a 0 c.index-a-0.result 0 (omega arith)),
      sym (get_or-map number a 1 c.index-a-1.result 0 (omega arith)),
      sym (get_or-map number a 2 c.index-a-2.result 0 (omega arith)),
      sym (get_or-map number a 3 c.index-a-3.result 0 (omega arith)),
      sym (get_or-map number a 4 c.index-a-4.result 0 (omega arith)),
      sym (get_or-map number a 5 c.index-a-5.result 0 (omega arith)),
      sym (get_or-map number a 6 c.index-a-6.result 0 (omega arith)),
      sym (get_or-map number a 7 c.index-a-7.result 0 (omega arith)),
      laws.xor_is _ _ _ c.bitxor-a17.ensures,
      laws.xor_is _ _ _ c.bitxor-a157.ensures,
      laws.xor_is _ _ _ c.bitxor-a24.ensures,
      laws.xor_is _ _ _ c.bitxor.ensures,
      laws.xor_is _ _ _ c.bitxor-not_a36.ensures,
      laws.xor_is _ _ _ c.bitxor-2.ensures,
      laws.xor_is _ _ _ c.bitxor-3.ensures,
      laws.xor_is _ _ _ c.bitxor-4.ensures,
      laws.xor_is _ _ _ c.bitxor-5.ensures,
      laws.xor_is _ _ _ c.bitxor-6.ensures,
      laws.xor_is _ _ _ c.bitxor-7.ensures,
      laws.xor_is _ _ _ c.bitxor-8.ensures,
      laws.xor_is _ _ _ c.bitxor-9.ensures,
      laws.xor_is _ _ _ c.bitxor-10.ensures,
      set-xor,
      ones,
    ) (affine_is (map number c.args.a) p)
