use Rattle.std.proofs.Common.{◌≡◌, ap, bit_and, ◌∙◌, arith}
use Rattle.std.proofs.lemmas.Nat.{and_mask}
use Rattle.quic_packets.proofs.header.byte_if_below.Goals as goal

pub returns-clause-below : goal.returns-clause-below
returns-clause-below c below =
    let ones : c.wrapping_neg.result ≡ 255 = omega (arith, c.wrapping_neg.ensures) in
    ap (bit_and c.args.byte) ones ∙ and_mask c.args.byte 8 ∙ omega arith
