use Rattle.std.proofs.Common.{arith, map, sym}
use Rattle.std.proofs.lemmas.List.{get_or-map}
use Rattle.aead_ciphers_base.specs
use specs.Planes.{plane_polynomial}
use specs.Tower.{plane_element, basis_256}
use Rattle.aead_ciphers_base.proofs
use proofs.PlaneBits.{set-xor}
use proofs.TowerCoordinates.{to_tower_is}
use proofs.aes.tower.to_tower.Goals as goal

pub returns : goal.returns
unfolding plane_element plane_polynomial basis_256
returns g c = λ p.
    let number = g.W.Plane.number in
    let laws = g.met.W.Plane in
    let a = c.args.a in
    simp (
      sym (get_or-map number a 0 c.index-a-0.result 0 (omega arith)),
      sym (get_or-map number a 1 c.index-a-1.result 0 (omega arith)),
      sym (get_or-map number a 2 c.index-a-2.result 0 (omega arith)),
      sym (get_or-map number a 3 c.index-a-3.result 0 (omega arith)),
      sym (get_or-map number a 4 c.index-a-4.result 0 (omega arith)),
      sym (get_or-map number a 5 c.index-a-5.result 0 (omega arith)),
      sym (get_or-map number a 6 c.index-a-6.result 0 (omega arith)),
      sym (get_or-map number a 7 c.index-a-7.result 0 (omega arith)),
      laws.xor_is _ _ _ c.bitxor-a06.ensures,
      laws.xor_is _ _ _ c.bitxor-a056.ensures,
      laws.xor_is _ _ _ c.bitxor-a13.ensures,
      laws.xor_is _ _ _ c.bitxor-a0156.ensures,
      laws.xor_is _ _ _ c.bitxor.ensures,
      laws.xor_is _ _ _ c.bitxor-2.ensures,
      laws.xor_is _ _ _ c.bitxor-3.ensures,
      laws.xor_is _ _ _ c.bitxor-4.ensures,
      laws.xor_is _ _ _ c.bitxor-5.ensures,
      laws.xor_is _ _ _ c.bitxor-6.ensures,
      laws.xor_is _ _ _ c.bitxor-7.ensures,
      laws.xor_is _ _ _ c.bitxor-8.ensures,
      laws.xor_is _ _ _ c.bitxor-9.ensures,
      set-xor,
    ) (to_tower_is (map number c.args.a) p)
