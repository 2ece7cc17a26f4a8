use Rattle.std.proofs.Common.{◌≡◌, ◌<◌, ℕ, length, slice_index}
use Rattle.aead_ciphers.proofs.SubkeyMultiples.{IsMultiple, IsRaised}
use Rattle.aead_ciphers_wide.proofs.gcm.product.multiples.Given as goal

abbrev pub invariant-loop-k : goal.invariant-loop-k
invariant-loop-k l = record {
  size : length l.multiples ≡ 8;
  multiple : IsRaised l.block l.k l.multiple;
  entries : (j : ℕ) → j < l.k → IsMultiple l.block j (slice_index l.multiples j);
}
