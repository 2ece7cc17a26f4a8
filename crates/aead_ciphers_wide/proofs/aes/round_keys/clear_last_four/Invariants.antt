use Rattle.std.proofs.Common.{◌≡◌, ◌<◌, ℕ, length, slice_index_or}
use Rattle.aead_ciphers_wide.proofs.aes.round_keys.clear_last_four.Given as goal

abbrev pub invariant-loop-j : goal.invariant-loop-j
invariant-loop-j g l = record {
  size : length l.rows ≡ 15;
  cleared : (j : ℕ) (d : _) → 10 < j → j < l.j → slice_index_or l.rows j d ≡ l.zero;
}
