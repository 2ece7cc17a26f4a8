use Rattle.std.proofs.Common.{◌≡◌, ℕ, ◌<◌, ◌≤◌, length}
use Rattle.quic_packets.specs.Space.{ShareBit, bit_of}
use Rattle.quic_packets.proofs.space.clear_range.Given as goal

abbrev pub invariant-loop-number : goal.invariant-loop-number
invariant-loop-number l = record {
  len : length l.seen ≡ length l.initial.seen;
  cleared : (n : ℕ) → l.from ≤ n → n < l.number → bit_of l.seen n ≡ 0;
  others : (n : ℕ) → ((m : ℕ) → l.from ≤ m → m < l.number → ¬ ShareBit (length l.initial.seen) n m)
      → bit_of l.seen n ≡ bit_of l.initial.seen n;
}
