use Rattle.quic_packets.specs.Numbers.{expected}
use Rattle.quic_packets.proofs.NumberLemmas.{window}
use Rattle.quic_packets.proofs.laws.decoded_in_window.Goals as goal

pub returns-clause-wrong : goal.returns-clause-wrong
returns-clause-wrong c decoded is from end same =
    window c.args.len (expected c.args.largest_received) c.args.number decoded c.requires is from end same
