use Rattle.std.proofs.Common.{arith, map, sym}
use Rattle.std.proofs.lemmas.List.{get_or-map}
use Rattle.aead_ciphers_base.specs
use specs.Planes.{plane_polynomial}
use specs.Tower.{plane_element, basis_4, basis_16}
use Rattle.aead_ciphers_base.proofs
use proofs.PlaneBits.{set-xor}
use proofs.TowerCoordinates.{two_bits, product_16_is}
use proofs.aes.tower.multiply_16.Goals as goal

pub returns : goal.returns
unfolding plane_element plane_polynomial basis_4 basis_16
returns g c = λ p.
    let number = g.W.Plane.number in
    let laws = g.met.W.Plane in
    let a = c.args.a in
    let b = c.args.b in
    let u = c.multiply_4.result in
    let v = c.multiply_4-2.result in
    let w = c.multiply_4-3.result in
    let low = two_bits (map number c.multiply_4.result) p _ (c.multiply_4.ensures p) in
    let high = two_bits (map number c.multiply_4-2.result) p _ (c.multiply_4-2.ensures p) in
    let both = two_bits (map number c.multiply_4-3.result) p _ (c.multiply_4-3.ensures p) in
    simp (
      sym (get_or-map number a 0 c.index-a-0.result 0 (omega arith)),
      sym (get_or-map number a 1 c.index-a-1.result 0 (omega arith)),
      sym (get_or-map number a 2 c.index-a-2.result 0 (omega arith)),
      sym (get_or-map number a 3 c.index-a-3.result 0 (omega arith)),
      sym (get_or-map number b 0 c.index-b-0.result 0 (omega arith)),
      sym (get_or-map number b 1 c.index-b-1.result 0 (omega arith)),
      sym (get_or-map number b 2 c.index-b-2.result 0 (omega arith)),
      sym (get_or-map number b 3 c.index-b-3.result 0 (omega arith)),
      sym (get_or-map number u 0 c.index-multiply_4-0.result 0 (omega arith)),
      sym (get_or-map number u 1 c.index-multiply_4-1.result 0 (omega arith)),
      sym (get_or-map number v 0 c.index-multiply_4-0-2.result 0 (omega arith)),
      sym (get_or-map number v 1 c.index-multiply_4-1-2.result 0 (omega arith)),
      sym (get_or-map number w 0 c.index-multiply_4-0-3.result 0 (omega arith)),
      sym (get_or-map number w 1 c.index-multiply_4-1-3.result 0 (omega arith)),
      laws.xor_is _ _ _ c.bitxor.ensures,
      laws.xor_is _ _ _ c.bitxor-2.ensures,
      laws.xor_is _ _ _ c.bitxor-3.ensures,
      laws.xor_is _ _ _ c.bitxor-4.ensures,
      laws.xor_is _ _ _ c.bitxor-scaled.ensures,
      laws.xor_is _ _ _ c.bitxor-5.ensures,
      laws.xor_is _ _ _ c.bitxor-6.ensures,
      laws.xor_is _ _ _ c.bitxor-7.ensures,
      laws.xor_is _ _ _ c.bitxor-8.ensures,
      set-xor,
      low.0,
      low.1,
      high.0,
      high.1,
      both.0,
      both.1,
    ) (product_16_is (map number c.args.a) (map number c.args.b) p)
