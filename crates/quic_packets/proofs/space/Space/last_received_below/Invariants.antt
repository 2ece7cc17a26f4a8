use Rattle.std.proofs.Common.{ℕ, ◌<◌, ◌≤◌}
use Rattle.quic_packets.specs.Space.{IsReceived}
use Rattle.quic_packets.proofs.space.Space.last_received_below.Given as goal

abbrev pub invariant-loop-end : goal.invariant-loop-end
invariant-loop-end g l = record {
  under : l.end ≤ l.below;
  within : l.end ≤ l.self.next;
  none : (n : ℕ) → l.end ≤ n → n < l.below → ¬ IsReceived l.self n;
}

abbrev pub decreases-loop-end : goal.decreases-loop-end
decreases-loop-end g l = l.end
