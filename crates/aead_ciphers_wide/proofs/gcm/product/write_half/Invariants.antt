use Rattle.std.proofs.Common.{◌≡◌, ◌+◌, ◌*◌, ◌<◌, ◌≤◌, ◌⊎◌, ℕ, [], ◌∷◌, length, slice_index}
use Rattle.aead_ciphers_wide.specs.Products.{chosen_sum}
use Rattle.aead_ciphers_wide.proofs.gcm.product.write_half.Given as goal

abbrev pub invariant-loop-r : goal.invariant-loop-r
invariant-loop-r l = record {
  size : length l.table ≡ 512;
  written : (r n : ℕ) → r < l.r → n < 16 → slice_index l.table (l.at + (16 * r + n))
      ≡ chosen_sum n 0 (slice_index l.fn.a r ∷ slice_index l.fn.b r ∷ slice_index l.fn.c r ∷ slice_index l.fn.d r ∷ []);
  others : (q : ℕ) → (q < l.at) ⊎ (l.at + 256 ≤ q) → slice_index l.table q ≡ slice_index l.initial.table q;
}
