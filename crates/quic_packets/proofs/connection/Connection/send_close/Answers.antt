use denote.Param.{number, param}
use Rattle.quic_packets.specs.Connection.{with_ends}
use Rattle.quic_packets.specs.contracts.connection.Connection.{the_view}
use Rattle.quic_packets.specs.declared.connection.Level.TheVariants.{Initial, Handshake, OneRtt}
use Rattle.quic_packets.proofs.OutcomeLemmas.{within}
use Rattle.quic_packets.proofs.connection.Connection.send_close.Goals as goal

pub returns-in-Initial : goal.returns-in-Initial
returns-in-Initial g c = record {
  outcome = rw (← c.self.view_is, c.in-Initial.is)
      (within (with_ends (the_view (param 0 (number g.row.W)) c.self.inside) Initial) _ _ _ _ _ _ _ _ _ _ _ _ c.send.ensures.outcome);
}

pub returns-in-Handshake : goal.returns-in-Handshake
returns-in-Handshake g c = record {
  outcome = rw (← c.self.view_is, c.in-Handshake.is)
      (within (with_ends (the_view (param 0 (number g.row.W)) c.self.inside) Handshake) _ _ _ _ _ _ _ _ _ _ _ _ c.send-in-Handshake.ensures.outcome);
}

pub returns-in-OneRtt : goal.returns-in-OneRtt
returns-in-OneRtt g c = record {
  outcome = rw (← c.self.view_is, c.in-OneRtt.is)
      (within (with_ends (the_view (param 0 (number g.row.W)) c.self.inside) OneRtt) _ _ _ _ _ _ _ _ _ _ _ _ c.send-in-OneRtt.ensures.outcome);
}
