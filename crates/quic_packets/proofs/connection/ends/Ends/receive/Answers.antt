use Rattle.std.proofs.Common.{rules}
use Rattle.quic_packets.proofs.connection.ends.Ends.receive.Goals as goal

pub returns-clause-tried : goal.returns-clause-tried
returns-clause-tried g c = rw (← c.self.view_is, c.in-Some.is) (search rules)
