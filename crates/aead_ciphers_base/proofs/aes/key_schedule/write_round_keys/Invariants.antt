use Rattle.std.proofs.Common.{◌≡◌, length}
use Rattle.aead_ciphers_base.specs.KeySchedule.{HoldsWords}
use Rattle.aead_ciphers_base.proofs.aes.key_schedule.write_round_keys.Given as goal

abbrev pub invariant-loop-j : goal.invariant-loop-j
invariant-loop-j l = (length l.planes ≡ 15) × HoldsWords l.planes l.words l.j
