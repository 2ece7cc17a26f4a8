use Rattle.std.proofs.Common.{◌≡◌, ◌≤◌, ◌+◌, ◌-◌, ℕ, ◌++◌, slice_index}
use Rattle.aead_ciphers_wide.specs.Products.{first_byte}
use Rattle.aead_ciphers_wide.proofs.ByteLadder.{ladder}
use Rattle.aead_ciphers_wide.proofs.ByteRows.{row_byte}
use Rattle.aead_ciphers_wide.proofs.gcm.product.product.Given as goal

abbrev pub invariant-loop-k : goal.invariant-loop-k
invariant-loop-k l = record {
  value : ladder 32 (λ i. first_byte (slice_index (l.first ++ l.second) i))
      ≡ ladder l.k (λ r. ladder 16 (λ i. first_byte (row_byte l.table l.high l.low (16 - l.k + r) i)));
  zeros : (i : ℕ) → l.k ≤ i + 1 → slice_index l.second i ≡ 0;
  empty : l.k ≡ 0 → slice_index l.first 15 ≡ 0;
}
