use Rattle.quic_packets.proofs.VersionLemmas.{sent_in_version}
use Rattle.quic_packets.proofs.laws.sent_in_version.Goals as goal

pub returns : goal.returns
returns c life sent packet calls has after = sent_in_version c.args.sender.now life sent packet calls has after
