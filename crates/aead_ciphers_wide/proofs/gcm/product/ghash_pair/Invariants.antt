use Rattle.std.proofs.Common.{◌≡◌, ◌≤◌, ◌+◌, ◌-◌, ◌*◌, ℕ, slice_index}
use Rattle.aead_ciphers_wide.proofs.ByteLadder.{ladder}
use Rattle.aead_ciphers_wide.proofs.ByteRows.{rows_value, row_sums}
use Rattle.aead_ciphers_wide.proofs.gcm.product.ghash_pair.Given as goal

abbrev pub invariant-loop-k : goal.invariant-loop-k
invariant-loop-k l = record {
  value : rows_value l.even l.even_over l.odd l.odd_over
      ≡ ladder (2 * l.k) (λ r. row_sums l.squares l.first_high l.first_low l.of_second (16 - 2 * l.k + r));
  even_zeros : (i : ℕ) → 2 * l.k ≤ i + 2 → slice_index l.even_over i ≡ 0;
  odd_zeros : (i : ℕ) → 2 * l.k ≤ i + 2 → slice_index l.odd_over i ≡ 0;
  even_empty : l.k ≡ 0 → (i : ℕ) → slice_index l.even i ≡ 0;
  odd_empty : l.k ≡ 0 → (i : ℕ) → slice_index l.odd i ≡ 0;
}
