use Rattle.std.proofs.Common.{arith, refl, rules}
use Rattle.std.proofs.lemmas.Grind.{common_steps}
use Rattle.std.proofs.lemmas.Result.{err_from_is_err_and}
use Rattle.quic_packets.proofs.ReceiveLemmas.{accepted_packet, unaccepted, unopened}
use Rattle.quic_packets.proofs.receiver.Receiver.receive.Goals as goal

pub returns-in_err-accept_opened-in-Ok : goal.returns-in_err-accept_opened-in-Ok
returns-in_err-accept_opened-in-Ok g c =
    let a = c.args in
    let at = c.in_ok-number_at.ensures in
    let tried = c.unprotect_and_open in
    let opening = c.in-Ok.ensures.opening in
    let it = c.in_err-accept_opened-in-Ok.ensures in
    let p = err_from_is_err_and c.from_residual-in_err-accept_opened-in-Ok.result c.from_residual-in_err-accept_opened-in-Ok.ensures.1 in
    record {
      outcome = rw (p.1, p.2)
          (unaccepted a.self.now a.space.now a.failures.now a.parts.now a.datagram.now (at.accepted.0 refl) tried.new.packet tried.auto.packet _ _
          at.place c.largest.ensures opening.0 opening.1 opening.2 c.in-Ok.first c.in-Ok.received opening.3
          c.in_err-accept_opened-in-Ok.field-0.0 c.accept_opened.new.self c.accept_opened.new.space it.accepted it.refused it.kept);
    }

pub returns-in_ok-accept_opened-in-Ok : goal.returns-in_ok-accept_opened-in-Ok
returns-in_ok-accept_opened-in-Ok g c =
    let a = c.args in
    let at = c.in_ok-number_at.ensures in
    let tried = c.unprotect_and_open in
    let opening = c.in-Ok.ensures.opening in
    let it = c.in_ok-accept_opened-in-Ok.ensures in
    record {
      outcome = accepted_packet a.self.now a.space.now a.failures.now a.parts.now a.datagram.now (at.accepted.0 refl) tried.new.packet tried.auto.packet _ _
          at.place c.largest.ensures opening.0 opening.1 opening.2 c.in-Ok.first c.in-Ok.received opening.3
          c.accept_opened.new.self c.accept_opened.new.space (it.accepted.0 refl) it.moved_on it.marked
          (c.in-Ok.ensures.payload.0, c.in-Ok.ensures.payload.1, first_of (search rules, grind (arith, common_steps)));
    }

pub returns-in-Err : goal.returns-in-Err
returns-in-Err g c =
    let a = c.args in
    let at = c.in_ok-number_at.ensures in
    let tried = c.unprotect_and_open in
    let opening = c.in-Err.ensures.opening in
    record {
      outcome = unopened a.self.now a.space.now a.failures.now a.parts.now a.datagram.now (at.accepted.0 refl) tried.new.packet tried.auto.packet _ _
          at.place c.largest.ensures opening.0 opening.1 opening.2 c.in-Err.error c.count_if_refused.new.self opening.3
          c.in-Err.ensures.kept (first_of (search rules, grind (arith, common_steps)));
    }
