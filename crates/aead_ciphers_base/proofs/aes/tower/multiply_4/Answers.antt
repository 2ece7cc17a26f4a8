use Rattle.std.proofs.Common.{arith, map, sym}
use Rattle.std.proofs.lemmas.List.{get_or-map}
use Rattle.aead_ciphers_base.specs
use specs.Planes.{plane_polynomial}
use specs.Tower.{plane_element, basis_4}
use Rattle.aead_ciphers_base.proofs
use proofs.PlaneBits.{set-xor, set-and}
use proofs.TowerCoordinates.{product_4_is}
use proofs.aes.tower.multiply_4.Goals as goal

pub returns : goal.returns
unfolding plane_element plane_polynomial basis_4
returns g c = λ p.
    let number = g.W.Plane.number in
    let laws = g.met.W.Plane in
    let a = c.args.a in
    let b = c.args.b in
    simp (
      sym (get_or-map number a 0 c.index-a-0.result 0 (omega arith)),
      sym (get_or-map number a 1 c.index-a-1.result 0 (omega arith)),
      sym (get_or-map number b 0 c.index-b-0.result 0 (omega arith)),
      sym (get_or-map number b 1 c.index-b-1.result 0 (omega arith)),
      laws.xor_is _ _ _ c.bitxor.ensures,
      laws.xor_is _ _ _ c.bitxor-2.ensures,
      laws.and_is _ _ _ c.bitand-both.ensures,
      laws.and_is _ _ _ c.bitand.ensures,
      laws.xor_is _ _ _ c.bitxor-3.ensures,
      laws.and_is _ _ _ c.bitand-2.ensures,
      laws.xor_is _ _ _ c.bitxor-4.ensures,
      set-xor,
      set-and,
    ) (product_4_is (map number c.args.a) (map number c.args.b) p)
