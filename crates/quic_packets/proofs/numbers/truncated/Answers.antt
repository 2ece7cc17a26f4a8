use Rattle.std.proofs.Common.{◌≡◌, ℕ, ◌+◌, ◌-◌, ◌*◌, ◌/◌, ◌^◌, ◌<◌, get_or, drop, take, sym, ap, subst, ◌∙◌, arith, rules, get_or-drop, length-drop}
use Rattle.std.proofs.lemmas.Nat.{shr_below}
use Rattle.std.specs.Int.Digits.{number_from_digits}
use Rattle.quic_packets.proofs.NumberBytes.{shifted}
use Rattle.quic_packets.proofs.numbers.truncated.Goals as goal

pub returns-clause-is : goal.returns-clause-is
returns-clause-is c =
    let packet = c.args.packet.now in
    let at = c.args.number_at in
    let bytes = drop at packet in
    let whole : at + c.args.len - at ≡ c.args.len = omega arith in
    let byte : (i : ℕ) → get_or packet (at + i) 0 < 256 = λ i. omega (arith, c.type_inv.packet (at + i)) in
    let here : (i : ℕ) → get_or packet (at + i) 0 ≡ get_or bytes i 0 = λ i. sym (get_or-drop at packet i 0) in
    let start : at ≡ at + 0 = omega arith in
    let first : get_or packet at 0 ≡ get_or bytes 0 0 = ap (λ i. get_or packet i 0) start ∙ here 0 in
    let four : c.from.result ≡ c.from_be_bytes-four.result / 2 ^ (32 - 8 * c.args.len) = search rules in
    four ∙ ap (λ n. n / 2 ^ (32 - 8 * c.args.len)) c.from_be_bytes-four.ensures
    ∙ shifted bytes c.args.len _ _ _ _ (omega (arith, length-drop at packet)) c.requires.len.0 c.requires.len.1
    (byte 1) (byte 2) (byte 3) first (here 1) (here 2) (here 3)
    ∙ ap (λ n. number_from_digits 256 (take n bytes)) (sym whole)

pub returns-clause-fits : goal.returns-clause-fits
returns-clause-fits c =
    let sum : 32 ≡ 8 * c.args.len + (32 - 8 * c.args.len) = omega arith in
    let four : c.from.result ≡ c.from_be_bytes-four.result / 2 ^ (32 - 8 * c.args.len) = search rules in
    let small : c.from_be_bytes-four.result < 2 ^ 32 = search rules in
    subst (λ n. n < 2 ^ (8 * c.args.len)) (sym four)
    (shr_below c.from_be_bytes-four.result (8 * c.args.len) (32 - 8 * c.args.len) (subst (λ n. c.from_be_bytes-four.result < 2 ^ n) sum small))
