use Rattle.quic_packets.proofs.ReceivingLemmas.{gives_back}
use Rattle.quic_packets.proofs.laws.received_as_sent.Goals as goal

pub returns : goal.returns
returns g c life sent own packet plain opened number result after run has follows holds window reads outcome =
    gives_back c.args.sender.now life sent run c.args.receiver.now own packet has follows holds c.requires c.args.space.now window plain number
    reads result after opened outcome
