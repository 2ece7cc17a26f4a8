use Rattle.std.proofs.Common.{arith, map, sym}
use Rattle.std.proofs.lemmas.List.{get_or-map}
use Rattle.aead_ciphers_base.specs
use specs.Planes.{plane_polynomial}
use specs.Tower.{plane_element, basis_16}
use Rattle.aead_ciphers_base.proofs
use proofs.PlaneBits.{set-xor, set-and}
use proofs.TowerCoordinates.{inverse_16_is}
use proofs.aes.tower.invert_16.Goals as goal

pub returns : goal.returns
unfolding plane_element plane_polynomial basis_16
returns g c = λ p.
    let number = g.W.Plane.number in
    let laws = g.met.W.Plane in
    let n = c.args.n in
    simp (
      sym (get_or-map number n 0 c.index-n-0.result 0 (omega arith)),
      sym (get_or-map number n 1 c.index-n-1.result 0 (omega arith)),
      sym (get_or-map number n 2 c.index-n-2.result 0 (omega arith)),
      sym (get_or-map number n 3 c.index-n-3.result 0 (omega arith)),
      laws.and_is _ _ _ c.bitand-both0.ensures,
      laws.and_is _ _ _ c.bitand-both1.ensures,
      laws.xor_is _ _ _ c.bitxor.ensures,
      laws.xor_is _ _ _ c.bitxor-2.ensures,
      laws.and_is _ _ _ c.bitand.ensures,
      laws.xor_is _ _ _ c.bitxor-3.ensures,
      laws.xor_is _ _ _ c.bitxor-4.ensures,
      laws.xor_is _ _ _ c.bitxor-5.ensures,
      laws.xor_is _ _ _ c.bitxor-6.ensures,
      laws.and_is _ _ _ c.bitand-2.ensures,
      laws.xor_is _ _ _ c.bitxor-7.ensures,
      laws.xor_is _ _ _ c.bitxor-8.ensures,
      laws.xor_is _ _ _ c.bitxor-9.ensures,
      laws.and_is _ _ _ c.bitand-3.ensures,
      laws.xor_is _ _ _ c.bitxor-10.ensures,
      laws.xor_is _ _ _ c.bitxor-11.ensures,
      laws.xor_is _ _ _ c.bitxor-12.ensures,
      laws.xor_is _ _ _ c.bitxor-13.ensures,
      laws.and_is _ _ _ c.bitand-4.ensures,
      laws.xor_is _ _ _ c.bitxor-14.ensures,
      set-xor,
      set-and,
    ) (inverse_16_is (map number c.args.n) p)
