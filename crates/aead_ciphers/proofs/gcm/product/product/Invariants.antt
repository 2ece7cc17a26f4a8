use Rattle.std.proofs.Common.{◌≡◌, ℕ, ◌-◌, ◌*◌, ◌/◌, ◌%◌, ◌^◌, ◌<◌, slice_index}
use Rattle.aead_ciphers.specs.Multiples.{entry, number_of_words}
use Rattle.aead_ciphers.proofs
use proofs.BlockLanes.{lane}
use proofs.SubkeyMultiples.{IsStretch}
use proofs.gcm.product.product.Given as goal

abbrev pub invariant-loop-i : goal.invariant-loop-i
invariant-loop-i l = record {
  bits : (j : ℕ) → j < 4 → slice_index l.bits j ≡ l.block / 2 ^ (96 - 32 * j) % 2 ^ 32 * 2 ^ l.i % 2 ^ 32;
  sums : (j : ℕ) → j < 4 → IsStretch l.block (entry l.table 0) (32 * j) l.i (number_of_words (lane l.first l.second l.third l.fourth j));
}
