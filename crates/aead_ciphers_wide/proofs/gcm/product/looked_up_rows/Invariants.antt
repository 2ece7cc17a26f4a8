use Rattle.std.proofs.Common.{◌≡◌, ◌+◌, ◌<◌, ℕ, [], length, slice_index_or}
use Rattle.aead_ciphers_base.specs.Bytes.{each_below}
use Rattle.aead_ciphers_wide.proofs.ByteRows.{row_byte}
use Rattle.aead_ciphers_wide.proofs.gcm.product.looked_up_rows.Given as goal

abbrev pub invariant-loop-k : goal.invariant-loop-k
invariant-loop-k l = record {
  size : length l.rows ≡ 16;
  rows : (r : ℕ) → r < 16 → 15 < l.k + r → slice_index_or l.rows r [] ≡ each_below 16 (row_byte l.table l.high l.low r);
}
