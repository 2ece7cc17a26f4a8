use Rattle.std.proofs.Common.{◌≡◌, ◌*◌, length}
use Rattle.aead_ciphers_base.specs
use specs.CounterMode.{Advances}
use specs.Work.{Adds}
use Rattle.aead_ciphers_base.proofs.CounterModeLemmas.{EncryptsFirst}
use Rattle.test_support.proofs.one_block.OneBlockEncryptCtr32.ctr32_encrypt_within.Given as goal

abbrev pub invariant-loop-i : goal.invariant-loop-i
invariant-loop-i g l = record {
  worked : Adds l.initial.work l.work l.i 0;
  size : length l.in_out ≡ length l.initial.in_out;
  output : EncryptsFirst (g.E.EncryptBlock.cipher l.fn.self.cipher.now) l.initial.counter l.start (16 * l.i) l.initial.in_out l.in_out;
  counter : Advances l.initial.counter l.counter l.i;
}
