use Rattle.std.proofs.Common.{◌+◌, ◌-◌, ◌*◌, ◌/◌, ◌%◌, ◌^◌, get_or, drop, ap, arith, length-take}
use Rattle.quic_packets.proofs.DatagramLemmas.{few_bytes, masked, varint_read}
use Rattle.quic_packets.proofs.datagram.varint_at.Goals as goal

pub network_number-requires : goal.network_number-requires
network_number-requires c =
    let few = few_bytes (get_or c.args.datagram.now c.args.at 0) (omega (arith, c.type_inv.datagram c.args.at)) in
    let l = 1 * 2 ^ (get_or c.args.datagram.now c.args.at 0 / 64) % 2 ^ 64 in
    omega (arith, few.most, length-take (c.args.at + l - c.args.at) (drop c.args.at c.args.datagram.now))

pub overflow_shl-value : goal.overflow_shl-value
overflow_shl-value c =
    let few = few_bytes (get_or c.args.datagram.now c.args.at 0) (omega (arith, c.type_inv.datagram c.args.at)) in
    omega (arith, few.most)

pub nonzero_rem-value : goal.nonzero_rem-value
nonzero_rem-value c =
    let few = few_bytes (get_or c.args.datagram.now c.args.at 0) (omega (arith, c.type_inv.datagram c.args.at)) in
    masked _ few.most

pub returns : goal.returns
returns c =
    let few = few_bytes (get_or c.args.datagram.now c.args.at 0) (omega (arith, c.type_inv.datagram c.args.at)) in
    (varint_read c.args.datagram.now c.args.at _ _ few c.network_number.ensures.is, ap (λ l. c.args.at + l) few.is, omega arith)
