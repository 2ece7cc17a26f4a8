use Rattle.std.proofs.Common.{◌≡◌, ℕ, ◌+◌, ◌<◌, ◌≤◌, bit_xor, get_or}
use Rattle.quic_packets.proofs.header.mask_number.Given as goal

abbrev pub invariant-loop-i : goal.invariant-loop-i
invariant-loop-i l = record {
  number : (k : ℕ) → k < l.i → k < l.number_len → get_or l.number k 0 ≡ bit_xor (get_or l.initial.number k 0) (get_or l.mask (k + 1) 0);
  ahead : (k : ℕ) → l.i ≤ k → get_or l.number k 0 ≡ get_or l.initial.number k 0;
  others : (k : ℕ) → l.number_len ≤ k → get_or l.number k 0 ≡ get_or l.initial.number k 0;
}
