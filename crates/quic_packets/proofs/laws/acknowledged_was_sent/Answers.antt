use Rattle.quic_packets.proofs.PhaseLemmas.{acknowledged_was_sent}
use Rattle.quic_packets.proofs.laws.acknowledged_was_sent.Goals as goal

pub returns : goal.returns
returns c life sent number calls was below now = acknowledged_was_sent c.args.sender.now life sent number calls was below now
