use Rattle.std.proofs.Common.{◌≡◌, ◌*◌, length}
use Rattle.aead_ciphers_base.specs.Aes.{aes}
use Rattle.aead_ciphers_base.proofs.CounterModeLemmas.{EncryptsFirst}
use Rattle.aead_ciphers_wide.proofs.aes.ctr32.add_keystream.Given as goal

abbrev pub invariant-loop-i : goal.invariant-loop-i
invariant-loop-i g l = record {
  size : length l.in_out ≡ length l.initial.in_out;
  output : EncryptsFirst (aes l.fn.key) l.fn.counter l.fn.start (16 * l.i) l.initial.in_out l.in_out;
}
