use Rattle.std.proofs.Common.{ℕ, ◌≤◌}
use Rattle.quic_packets.specs.Space.{IsReceived}
use Rattle.quic_packets.proofs.space.Space.first_of_range.Given as goal

abbrev pub invariant-loop-first : goal.invariant-loop-first
invariant-loop-first g l = record {
  within : l.first ≤ l.last;
  received : (n : ℕ) → l.first ≤ n → n ≤ l.last → IsReceived l.self n;
}

abbrev pub decreases-loop-first : goal.decreases-loop-first
decreases-loop-first g l = l.first
