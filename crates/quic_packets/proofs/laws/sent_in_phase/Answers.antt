use Rattle.quic_packets.proofs.PhaseLemmas.{of_phase}
use Rattle.quic_packets.proofs.laws.sent_in_phase.Goals as goal

pub returns : goal.returns
returns c life sent packet calls has = of_phase c.args.sender.now life sent packet calls has
