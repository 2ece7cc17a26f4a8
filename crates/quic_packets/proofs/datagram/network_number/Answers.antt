use Rattle.std.proofs.Common.{◌≡◌, ◌<◌, get_or, arith, rules}
use Rattle.std.proofs.lemmas.Int.Digits.{number_more}
use Rattle.quic_packets.proofs.DatagramLemmas.{power_below, power_next}
use Rattle.quic_packets.proofs.datagram.network_number.Goals as goal

pub overflow_mul-number : goal.overflow_mul-number
overflow_mul-number c = omega (arith, c.loop-byte.invariant.fits, power_below c.loop-byte.byte-index 7 (omega arith))

pub overflow_add-number : goal.overflow_add-number
overflow_add-number c =
    let byte : c.from.result < 256 = search rules in
    omega (arith, c.loop-byte.invariant.fits, power_below c.loop-byte.byte-index 7 (omega arith))

pub loop-byte-preserved : goal.loop-byte-preserved
loop-byte-preserved c =
    let byte : c.from.result ≡ get_or c.args.bytes.now c.loop-byte.byte-index 0 = search rules in
    let small : c.from.result < 256 = search rules in
    record {
      is = omega (arith, c.loop-byte.invariant.is, byte, number_more 256 c.args.bytes.now c.loop-byte.byte-index (omega arith));
      fits = omega (arith, c.loop-byte.invariant.fits, small, power_next c.loop-byte.byte-index);
    }
