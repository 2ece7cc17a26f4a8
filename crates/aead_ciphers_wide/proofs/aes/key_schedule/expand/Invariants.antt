use Rattle.std.proofs.Common.{◌≡◌, ◌+◌, ◌-◌, ◌*◌, ◌/◌, length}
use Rattle.aead_ciphers_base.specs.Aes.{key_words}
use Rattle.aead_ciphers_wide.specs.WideSchedule.{AreZerosAfter, HoldsWords, key_at}
use Rattle.aead_ciphers_wide.proofs.aes.key_schedule.expand.Given as goal

abbrev pub invariant-loop-n : goal.invariant-loop-n
invariant-loop-n l = record {
  size : length l.round_keys ≡ 15;
  unused : AreZerosAfter l.round_keys (length l.key / 4 + 6);
  back : l.back ≡ key_at l.round_keys (l.n - l.m);
  last : l.last ≡ key_at l.round_keys (l.n - 1);
  held : HoldsWords l.round_keys (key_words (4 * l.m) l.key (4 * (4 * l.m + 7) - 4 * l.m)) l.n;
}
