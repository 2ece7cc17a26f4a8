use Rattle.std.proofs.Common.{arith, ap, ◌∙◌, map, sym}
use Rattle.std.proofs.lemmas.List.{get_or-map}
use Rattle.aead_ciphers_base.specs
use specs.ByteField.{mul8}
use specs.Planes.{plane_polynomial}
use specs.Tower.{plane_element, basis_16, basis_256}
use Rattle.aead_ciphers_base.proofs
use proofs.PlaneBits.{set-xor}
use proofs.TowerCoordinates.{four_bits, inverse_is}
use proofs.aes.tower.invert.Goals as goal

pub returns : goal.returns
unfolding plane_element plane_polynomial basis_16 basis_256
returns g c = λ p.
    let number = g.W.Plane.number in
    let laws = g.met.W.Plane in
    let a = c.args.a in
    let u = c.multiply_16.result in
    let v = c.multiply_16-2.result in
    let w = c.multiply_16-3.result in
    let m = four_bits (map number c.multiply_16.result) p _ (c.multiply_16.ensures p) in
    let low = four_bits (map number c.multiply_16-2.result) p _ (c.multiply_16-2.ensures p ∙ ap (mul8 _) (c.invert_16-a238.ensures p)) in
    let high = four_bits (map number c.multiply_16-3.result) p _ (c.multiply_16-3.ensures p ∙ ap (mul8 _) (c.invert_16-a238.ensures p)) in
    simp (
      sym (get_or-map number a 0 c.index-a-0.result 0 (omega arith)),
      sym (get_or-map number a 1 c.index-a-1.result 0 (omega arith)),
      sym (get_or-map number a 2 c.index-a-2.result 0 (omega arith)),
      sym (get_or-map number a 3 c.index-a-3.result 0 (omega arith)),
      sym (get_or-map number a 4 c.index-a-4.result 0 (omega arith)),
      sym (get_or-map number a 5 c.index-a-5.result 0 (omega arith)),
      sym (get_or-map number a 6 c.index-a-6.result 0 (omega arith)),
      sym (get_or-map number a 7 c.index-a-7.result 0 (omega arith)),
      sym (get_or-map number u 0 c.index-multiply_16-0.result 0 (omega arith)),
      sym (get_or-map number u 1 c.index-multiply_16-1.result 0 (omega arith)),
      sym (get_or-map number u 2 c.index-multiply_16-2.result 0 (omega arith)),
      sym (get_or-map number u 3 c.index-multiply_16-3.result 0 (omega arith)),
      sym (get_or-map number v 0 c.index-multiply_16-0-2.result 0 (omega arith)),
      sym (get_or-map number v 1 c.index-multiply_16-1-2.result 0 (omega arith)),
      sym (get_or-map number v 2 c.index-multiply_16-2-2.result 0 (omega arith)),
      sym (get_or-map number v 3 c.index-multiply_16-3-2.result 0 (omega arith)),
      sym (get_or-map number w 0 c.index-multiply_16-0-3.result 0 (omega arith)),
      sym (get_or-map number w 1 c.index-multiply_16-1-3.result 0 (omega arith)),
      sym (get_or-map number w 2 c.index-multiply_16-2-3.result 0 (omega arith)),
      sym (get_or-map number w 3 c.index-multiply_16-3-3.result 0 (omega arith)),
      laws.xor_is _ _ _ c.bitxor.ensures,
      laws.xor_is _ _ _ c.bitxor-2.ensures,
      laws.xor_is _ _ _ c.bitxor-3.ensures,
      laws.xor_is _ _ _ c.bitxor-4.ensures,
      laws.xor_is _ _ _ c.bitxor-5.ensures,
      laws.xor_is _ _ _ c.bitxor-6.ensures,
      laws.xor_is _ _ _ c.bitxor-7.ensures,
      laws.xor_is _ _ _ c.bitxor-8.ensures,
      laws.xor_is _ _ _ c.bitxor-9.ensures,
      laws.xor_is _ _ _ c.bitxor-10.ensures,
      laws.xor_is _ _ _ c.bitxor-11.ensures,
      laws.xor_is _ _ _ c.bitxor-12.ensures,
      laws.xor_is _ _ _ c.bitxor-13.ensures,
      laws.xor_is _ _ _ c.bitxor-14.ensures,
      low.0,
      low.1,
      low.2,
      low.3,
      high.0,
      high.1,
      high.2,
      high.3,
      set-xor,
      m.0,
      m.1,
      m.2,
      m.3,
    ) (inverse_is (map number c.args.a) p)
