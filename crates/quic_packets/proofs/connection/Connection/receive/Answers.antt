use Rattle.std.proofs.Common.{◌≡◌, ◌<◌, subst}
use Rattle.quic_packets.specs.Connection.{IsReceiving, given_of}
use Rattle.quic_packets.proofs.StepLemmas.{given_step, is_below, passed_over}
use Rattle.quic_packets.proofs.connection.Connection.receive.Goals as goal

pub returns-in-Ok : goal.returns-in-Ok
returns-in-Ok g c =
    let a = c.args in
    let p = c.in-Ok.parts in
    let o = c.receive_parsed-attempt in
    let f = c.self.inside.failures in
    let below : f.count < f.limit = is_below c.is_at_limit.result f.count f.limit c.is_at_limit.ensures c.if-is_at_limit.false in
    let receiving : IsReceiving a.self.now = rw (← c.self.view_is) below in
    record {
      outcome = given_step a.self.now o.new.self a.id_len a.id.now a.datagram.now o.new.datagram a.at p receiving c.in-Ok.ensures.to_open
          o.result.outcome c.step_or_close.result
          (subst (λ u. c.step_or_close.result ≡ given_of p.end p.packet_type u o.result.outcome) o.ensures.update c.step_or_close.ensures)
          o.ensures.some o.ensures.tried o.ensures.followed o.ensures.received o.ensures.kept;
    }

pub returns-in-Err : goal.returns-in-Err
returns-in-Err g c =
    let a = c.args in
    let f = c.self.inside.failures in
    let below : f.count < f.limit = is_below c.is_at_limit.result f.count f.limit c.is_at_limit.ensures c.if-is_at_limit.false in
    let receiving : IsReceiving a.self.now = rw (← c.self.view_is) below in
    record {
      outcome = passed_over a.self.now a.id_len a.id.now a.datagram.now a.at c.in-Err.step receiving c.in-Err.ensures.unopened;
    }
