use Rattle.std.proofs.Common.{◌≡◌, ◌≢◌, ℕ, ◌+◌, ◌<◌, ◌≤◌, List, bit_xor, get_or, length, set, inl, inr, ap, ◌∙◌, arith}
use Rattle.std.proofs.lemmas.Bool.{cases_eq}
use Rattle.std.proofs.lemmas.List.{get_or-set_other, get_or-set_same}
use Rattle.std.proofs.lemmas.Nat.{xor_comm}
use Rattle.quic_packets.proofs.header.mask_number.Goals as goal

-- one more byte, which is XORed with `byte`
module _ (number_len i byte : ℕ) (old mid mask : List ℕ) (inside : i < length mid) (below : i < number_len → byte ≡ get_or mask (i + 1) 0)
    (above : number_len ≤ i → byte ≡ 0) (ahead : (k : ℕ) → i ≤ k → get_or mid k 0 ≡ get_or old k 0) where
  abbrev new : List ℕ
  new = set mid i (bit_xor (get_or mid i 0) byte)

  at_it : get_or new i 0 ≡ bit_xor (get_or old i 0) byte
  at_it = get_or-set_same mid i (bit_xor (get_or mid i 0) byte) 0 inside ∙ ap (λ x. bit_xor x byte) (ahead i (omega arith))

  elsewhere : (k : ℕ) → k ≢ i → get_or new k 0 ≡ get_or mid k 0
  elsewhere k other = get_or-set_other mid i k (bit_xor (get_or mid i 0) byte) 0 other

  number_more : ((k : ℕ) → k < i → k < number_len → get_or mid k 0 ≡ bit_xor (get_or old k 0) (get_or mask (k + 1) 0))
      → (k : ℕ) → k < i + 1 → k < number_len → get_or new k 0 ≡ bit_xor (get_or old k 0) (get_or mask (k + 1) 0)
  number_more was k up few =
      elim (cases_eq k i) [
        | inl same ↦ rw same (at_it ∙ ap (bit_xor (get_or old i 0)) (below (omega (arith, same, few))))
        | inr other ↦ elsewhere k other ∙ was k (omega (arith, other)) few
      ]

  ahead_more : (k : ℕ) → i + 1 ≤ k → get_or new k 0 ≡ get_or old k 0
  ahead_more k from = elsewhere k (omega (arith, from)) ∙ ahead k (omega (arith, from))

  others_more : ((k : ℕ) → number_len ≤ k → get_or mid k 0 ≡ get_or old k 0) → (k : ℕ) → number_len ≤ k → get_or new k 0 ≡ get_or old k 0
  others_more was k from =
      elim (cases_eq k i) [
        | inl same ↦
            rw same (at_it ∙ ap (bit_xor (get_or old i 0)) (above (omega (arith, same, from))) ∙ xor_comm (get_or old i 0) 0)
        | inr other ↦ elsewhere k other ∙ was k from
      ]

pub loop-i-preserved : goal.loop-i-preserved
loop-i-preserved c =
    let a = c.args in
    let l = c.loop-i in
    let it = c.byte_if_below in
    let inside : l.i < length l.number = omega arith in
    record {
      number = number_more a.number_len l.i it.result a.number.now l.number a.mask.now inside it.ensures.below it.ensures.above l.invariant.ahead
          l.invariant.number;
      ahead = ahead_more a.number_len l.i it.result a.number.now l.number a.mask.now inside it.ensures.below it.ensures.above l.invariant.ahead;
      others = others_more a.number_len l.i it.result a.number.now l.number a.mask.now inside it.ensures.below it.ensures.above l.invariant.ahead
          l.invariant.others;
    }
