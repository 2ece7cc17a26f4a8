use Rattle.std.proofs.Common.{◌≡◌, ◌*◌, arith, rules}
use Rattle.quic_packets.specs.Numbers.{unacknowledged}
use Rattle.quic_packets.proofs.NumberLemmas.{fewest}
use Rattle.quic_packets.proofs.numbers.number_len.Goals as goal

pub returns-then-range-4-clause-fewest : goal.returns-then-range-4-clause-fewest
returns-then-range-4-clause-fewest c k some short =
    let range : c.match-largest_acknowledged.unacknowledged ≡ unacknowledged c.args.number c.args.largest_acknowledged = search rules in
    fewest 3 k (2 * unacknowledged c.args.number c.args.largest_acknowledged) (omega (arith, range, c.if-range-3.false)) short
