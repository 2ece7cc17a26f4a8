use Rattle.std.proofs.Common.{◌≡◌, ◌+◌, ◌*◌, ◌/◌, ◌<◌, ◌≤◌, ℕ, length, slice_index}
use Rattle.aead_ciphers_wide.specs.WideSchedule.{key_at}
use Rattle.aead_ciphers_wide.proofs.aes.key_schedule.copy_key.Given as goal

abbrev pub invariant-loop-n : goal.invariant-loop-n
invariant-loop-n l = record {
  size : length l.round_keys ≡ 15;
  later : (j : ℕ) → length l.key / 16 ≤ j → key_at l.round_keys j ≡ key_at l.initial.round_keys j;
  copied : (j k : ℕ) → j < l.n → k < 16 → slice_index (key_at l.round_keys j) k ≡ slice_index l.key (16 * j + k);
}
