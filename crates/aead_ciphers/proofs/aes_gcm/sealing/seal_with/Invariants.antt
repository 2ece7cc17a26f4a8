use Rattle.std.proofs.Common.{◌-◌, ◌/◌, ◌≤◌, take}
use Rattle.aead_ciphers_base.specs
use specs.CounterMode.{InCounterMode}
use specs.Work.{Adds}
use Rattle.aead_ciphers.specs.HashOf.{Absorbs}
use Rattle.aead_ciphers_base.proofs.CounterModeLemmas.{Walked}
use Rattle.aead_ciphers.proofs
use proofs.aes_gcm.sealing.seal_with.Given as goal

abbrev pub invariant-loop-done : goal.invariant-loop-done
invariant-loop-done g l = record {
  worked : Adds l.initial.work l.work (l.done / 16) (l.done / 16);
  within : l.done ≤ l.whole;
  walk : Walked (g.A.EncryptBlock.cipher l.aes) l.initial.counter l.counter 0 l.done l.initial.in_out l.in_out;
  hashed : InCounterMode (g.A.EncryptBlock.cipher l.aes) l.initial.counter l.initial.in_out
      (λ text. Absorbs l.initial.auth (take l.done text) l.auth);
}

abbrev pub decreases-loop-done : goal.decreases-loop-done
decreases-loop-done g l = l.whole - l.done
