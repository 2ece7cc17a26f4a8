use Rattle.quic_packets.proofs.RunLemmas.{counted_once}
use Rattle.quic_packets.proofs.laws.no_number_received_twice.Goals as goal

pub returns : goal.returns
returns g c numbers counts i j d before within = counted_once c.args.space.now numbers i j d counts before within
