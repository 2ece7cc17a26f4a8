use Rattle.std.proofs.Common.{◌≡◌, ◌^◌, ◌<◌, take}
use Rattle.std.specs.Int.Digits.{number_from_digits}
use Rattle.quic_packets.proofs.datagram.network_number.Given as goal

abbrev pub invariant-loop-byte : goal.invariant-loop-byte
invariant-loop-byte l = record {
  is : l.number ≡ number_from_digits 256 (take l.byte-index l.bytes);
  fits : l.number < 256 ^ l.byte-index;
}
