use Rattle.std.proofs.Common.{◌≡◌, ◌-◌}
use Rattle.aead_ciphers_base.specs.Aes.{rounds}
use Rattle.aead_ciphers_wide.specs.WideSchedule.{schedule_words}
use Rattle.aead_ciphers_wide.proofs.aes.block_key.BlockKeyRef.encrypt_one.Given as goal

abbrev pub invariant-loop-n : goal.invariant-loop-n
invariant-loop-n l = l.state ≡ rounds (schedule_words l.round_keys l.rounds) l.fn.block (l.n - 1)
