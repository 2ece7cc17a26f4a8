use Rattle.std.proofs.Common.{◌≡◌, ◌+◌, ◌-◌, ◌≤◌, length}
use Rattle.aead_ciphers_wide.proofs.PieceLemmas.{SealsFront}
use Rattle.aead_ciphers_wide.proofs.aes_gcm.pieces.SealState.update_with.Given as goal

abbrev pub invariant-loop-done : goal.invariant-loop-done
invariant-loop-done g l = record {
  within : l.done ≤ length l.initial.in_out;
  size : length l.in_out ≡ length l.initial.in_out;
  len : l.self.len ≡ l.initial.self.len + l.done;
  front : SealsFront (g.A.EncryptBlock.cipher l.aes) l.initial.self l.initial.in_out l.done l.in_out l.self;
}

abbrev pub decreases-loop-done : goal.decreases-loop-done
decreases-loop-done g l = length l.in_out - l.done
