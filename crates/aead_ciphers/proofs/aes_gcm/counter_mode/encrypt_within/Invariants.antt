use Rattle.std.proofs.Common.{◌-◌, ◌/◌, ◌≤◌}
use Rattle.aead_ciphers_base.specs.Work.{Adds}
use Rattle.aead_ciphers_base.proofs.CounterModeLemmas.{Walked}
use Rattle.aead_ciphers.proofs
use proofs.aes_gcm.counter_mode.encrypt_within.Given as goal

abbrev pub invariant-loop-done : goal.invariant-loop-done
invariant-loop-done g l = record {
  worked : Adds l.initial.work l.work (l.done / 16) 0;
  within : l.done ≤ l.whole;
  walk : Walked (g.A.EncryptBlock.cipher l.aes) l.initial.counter l.counter l.start l.done l.initial.in_out l.in_out;
}

abbrev pub decreases-loop-done : goal.decreases-loop-done
decreases-loop-done g l = l.whole - l.done
