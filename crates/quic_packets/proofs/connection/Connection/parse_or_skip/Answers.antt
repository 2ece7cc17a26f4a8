use Rattle.std.proofs.Common.{rules, ◌≡◌, Ok, IsFalse, IsSome, sym}
use Rattle.quic_packets.specs.Connection.{IsOwn, is_discarded, receiver_of}
use Rattle.quic_packets.specs.Datagram.{packet_of}
use Rattle.quic_packets.proofs.StepLemmas as lemmas
use Rattle.quic_packets.proofs.connection.Connection.parse_or_skip.Goals as goal

pub returns-then-not-is_own_not_discarded-clause-unopened : goal.returns-then-not-is_own_not_discarded-clause-unopened
returns-then-not-is_own_not_discarded-clause-unopened g c =
    let a = c.args in
    let it = c.in-Ok.ensures in
    let p = c.in-Ok.parts in
    let parsed : packet_of a.self.now.fixed_bit a.id_len a.datagram.now a.at ≡ Ok p = rw (← c.self.view_is) (sym it.packet) in
    let no : IsOwn a.id.now a.datagram.now p → IsFalse (is_discarded a.self.now p.packet_type) → ⊥ = search rules in
    lemmas.past_stranger a.self.now a.id_len a.id.now a.datagram.now a.at p parsed it.start it.some it.within no

pub returns-then-not-has_receiver-clause-unopened : goal.returns-then-not-has_receiver-clause-unopened
returns-then-not-has_receiver-clause-unopened g c =
    let a = c.args in
    let it = c.in-Ok.ensures in
    let p = c.in-Ok.parts in
    let parsed : packet_of a.self.now.fixed_bit a.id_len a.datagram.now a.at ≡ Ok p = rw (← c.self.view_is) (sym it.packet) in
    let own : IsOwn a.id.now a.datagram.now p = search rules in
    let undropped : IsFalse (is_discarded a.self.now p.packet_type) = search rules in
    let none : IsSome (receiver_of a.self.now p.packet_type) → ⊥ = search rules in
    lemmas.past_keyless a.self.now a.id_len a.id.now a.datagram.now a.at p parsed it.start it.some it.within own undropped none

pub returns-clause-to_open : goal.returns-clause-to_open
returns-clause-to_open g c =
    let a = c.args in
    let it = c.in-Ok.ensures in
    let parsed : packet_of a.self.now.fixed_bit a.id_len a.datagram.now a.at ≡ Ok c.in-Ok.parts = rw (← c.self.view_is) (sym it.packet) in
    record {
      packet = record { parsed = parsed; own = search rules; undropped = search rules };
      receiver = search rules;
      begins = it.start;
      some = it.some;
      within = it.within;
    }
