use Rattle.std.proofs.Common.{◌≡◌, ◌-◌, length}
use Rattle.quic_packets_tests.proofs.tests.connection.receive.Given as goal

abbrev pub invariant-loop-at : goal.invariant-loop-at
invariant-loop-at l = length l.datagram ≡ length l.initial.datagram

abbrev pub decreases-loop-at : goal.decreases-loop-at
decreases-loop-at l = length l.datagram - l.at
