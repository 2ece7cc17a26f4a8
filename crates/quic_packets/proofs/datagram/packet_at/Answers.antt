use Rattle.std.proofs.Common.{◌<◌, ◌≤◌, ◌≡◌, length, arith}
use Rattle.std.specs.Prelude.{IfSome}
use Rattle.quic_packets.specs.Datagram.{IsIn}
use Rattle.quic_packets.proofs.DatagramLemmas as lemmas
use Rattle.quic_packets.proofs.datagram.packet_at.Goals as goal

pub check_fixed_bit-requires : goal.check_fixed_bit-requires
check_fixed_bit-requires c =
    let a = c.args in
    let it = c.in_ok-packet in
    let placed = lemmas.read_placed a.connection_id_len a.datagram.now a.start it.packet it.ensures in
    omega (arith, placed.some, placed.within)

pub returns : goal.returns
returns c =
    let a = c.args in
    let it = c.in_ok-packet in
    let placed = lemmas.read_placed a.connection_id_len a.datagram.now a.start it.packet it.ensures in
    let read = c.check_fixed_bit in
    let passed = lemmas.passed a.fixed_bit a.start a.datagram.now it.packet read.result placed read.ensures in
    record {
      packet = lemmas.of_parts a.fixed_bit a.start a.datagram.now it.packet read.result placed read.ensures _ it.ensures;
      fixed_bit = lemmas.checked a.fixed_bit a.start a.datagram.now it.packet read.result placed read.ensures;
      refused = lemmas.end_within a.fixed_bit a.start a.datagram.now it.packet read.result placed read.ensures;
      start = passed (λ p. p.start ≡ a.start) placed.begins;
      some = passed (λ p. p.start < p.end) placed.some;
      within = passed (λ p. p.end ≤ length a.datagram.now) placed.within;
      number = passed (λ p. IfSome p.number_at (λ at. (p.start < at) × (at ≤ p.end))) placed.number;
      ranges = passed (λ p. IsIn p p.destination_id × IsIn p p.source_id × IsIn p p.token) placed.ranges;
    }
