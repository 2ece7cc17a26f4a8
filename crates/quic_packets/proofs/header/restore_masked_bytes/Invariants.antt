use Rattle.std.proofs.Common.{◌≡◌, ℕ, ◌+◌, ◌<◌, ◌≤◌, ◌⊎◌, get_or}
use Rattle.quic_packets.proofs.header.restore_masked_bytes.Given as goal

abbrev pub invariant-loop-i : goal.invariant-loop-i
invariant-loop-i l = record {
  first : get_or l.packet 0 0 ≡ get_or l.bytes 0 0;
  number : (k : ℕ) → k < l.i → get_or l.packet (l.number_at + k) 0 ≡ get_or l.bytes (k + 1) 0;
  others : (k : ℕ) → 0 < k → (k < l.number_at) ⊎ (l.number_at + 4 ≤ k) → get_or l.packet k 0 ≡ get_or l.fn.packet k 0;
}
