use Rattle.std.proofs.Common.{Some, ap}
use Rattle.quic_packets.specs.Connection.{Connection}
use Rattle.quic_packets.specs.Ends.{Ends}
use Rattle.quic_packets.proofs.connection.Connection.receive_zero_rtt.Goals as goal

pub returns-clause-tried : goal.returns-clause-tried
returns-clause-tried g c = rw (← c.self.view_is, c.in-Some.is) c.receive_with.ensures.tried

pub returns-clause-received : goal.returns-clause-received
returns-clause-received g c =
    let was = c.self.inside in
    let with_one_rtt : Ends → Connection = λ ends. record {
      initial = was.initial;
      handshake = was.handshake;
      one_rtt = ends;
      zero_rtt = Some c.receive_with.new.receiver;
      zero_rtt_discarded = was.is_zero_rtt_discarded;
      failures = c.receive_with.new.failures;
      limit = was.limit;
      fixed_bit = was.fixed_bit;
      peer_fixed_bit = was.peer_fixed_bit;
    } in
    rw (← c.self.view_is) (ap with_one_rtt c.receive_with.ensures.ends)
