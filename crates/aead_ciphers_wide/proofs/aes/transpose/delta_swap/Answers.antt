use Rattle.std.proofs.Common.{◌*◌, ◌/◌, ◌%◌, ◌^◌, ◌∙◌, ap, arith, bit_and, slice_index}
use Rattle.std.specs.Int.{bit_at}
use Rattle.std.proofs.lemmas.Nat.{one_shl, pow_below}
use Rattle.aead_ciphers_base.specs.declared.aes.pack.TheConstants.{LOW}
use Rattle.aead_ciphers_base.proofs.PlanePacking.{delta_swap_first, delta_swap_second}
use Rattle.aead_ciphers_wide.specs.Word.{lane_of}
use Rattle.aead_ciphers_wide.proofs.WordLanes.{swap_first, swap_second}
use Rattle.aead_ciphers_wide.proofs.aes.transpose.delta_swap.Goals as goal

pub lanes_right-requires : goal.lanes_right-requires
lanes_right-requires g c = rw (one_shl c.args.k 32 (omega arith)) (pow_below c.args.k 6 c.requires)

pub returns-clause-first : goal.returns-clause-first
returns-clause-first g c = λ j q hj hq.
    let number = g.P.Plane.number in
    let laws = g.met.P.Plane in
    let k = c.args.k in
    let a = number c.args.a in
    let b = number c.args.b in
    let shift = one_shl k 32 (omega arith) in
    let x = lane_of j a in
    let y = lane_of j b in
    ap (λ n. bit_at n q)
    (swap_first j (2 ^ k) (slice_index LOW k) a b (number c.lanes_right.result) (number c.splat.result) (number c.bitand-delta.result)
    (c.lanes_right.ensures j hj ∙ ap (λ n. x / 2 ^ n) shift) (c.splat.ensures j hj)
    (laws.and_is _ _ _ c.bitand-delta.ensures ∙ ap (λ n. bit_and n (number c.splat.result)) (laws.xor_is _ _ _ c.bitxor.ensures))
    (number c.lanes_left.result) (number c.bitxor-2.result)
    (c.lanes_left.ensures j hj ∙ ap (λ n. lane_of j (number c.bitand-delta.result) * 2 ^ n % 2 ^ 64) shift)
    (laws.xor_is _ _ _ c.bitxor-2.ensures))
    ∙ delta_swap_first x y k q c.requires hq

pub returns-clause-second : goal.returns-clause-second
returns-clause-second g c = λ j q hj hq.
    let number = g.P.Plane.number in
    let laws = g.met.P.Plane in
    let k = c.args.k in
    let a = number c.args.a in
    let b = number c.args.b in
    let shift = one_shl k 32 (omega arith) in
    let x = lane_of j a in
    let y = lane_of j b in
    ap (λ n. bit_at n q)
    (swap_second j (2 ^ k) (slice_index LOW k) a b (number c.lanes_right.result) (number c.splat.result) (number c.bitand-delta.result)
    (c.lanes_right.ensures j hj ∙ ap (λ n. x / 2 ^ n) shift) (c.splat.ensures j hj)
    (laws.and_is _ _ _ c.bitand-delta.ensures ∙ ap (λ n. bit_and n (number c.splat.result)) (laws.xor_is _ _ _ c.bitxor.ensures))
    (number c.bitxor-3.result) (laws.xor_is _ _ _ c.bitxor-3.ensures))
    ∙ delta_swap_second x y k q c.requires hq
