use Rattle.std.proofs.Common.{◌-◌, ◌/◌, ◌≤◌}
use Rattle.aead_ciphers_base.specs.Aes.{aes}
use Rattle.aead_ciphers_base.specs.Work.{Adds}
use Rattle.aead_ciphers_base.proofs.CounterModeLemmas.{Walked}
use Rattle.aead_ciphers_wide.proofs.aes.ctr32.KeyRefEncryptCtr32.ctr32_encrypt_within.Given as goal

abbrev pub invariant-loop-done : goal.invariant-loop-done
invariant-loop-done l = record {
  worked : Adds l.initial.work l.work (l.done / 16) 0;
  within : l.done ≤ l.len;
  walk : Walked (aes l.fn.self) l.initial.counter l.counter l.start l.done l.initial.in_out l.in_out;
}

abbrev pub decreases-loop-done : goal.decreases-loop-done
decreases-loop-done l = l.len - l.done
