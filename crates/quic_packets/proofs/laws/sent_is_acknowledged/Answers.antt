use Rattle.quic_packets.proofs.PhaseLemmas.{sent_is_acknowledged}
use Rattle.quic_packets.proofs.laws.sent_is_acknowledged.Goals as goal

pub returns : goal.returns
returns c life sent packet calls has = sent_is_acknowledged c.args.sender.now life sent packet calls has
