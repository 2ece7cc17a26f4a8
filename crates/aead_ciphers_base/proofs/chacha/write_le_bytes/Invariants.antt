use Rattle.std.proofs.Common.{◌≡◌, ◌*◌, length, take}
use Rattle.aead_ciphers_base.specs.ChaCha20.{le_bytes}
use Rattle.aead_ciphers_base.proofs.chacha.write_le_bytes.Given as goal

abbrev pub invariant-loop-i : goal.invariant-loop-i
invariant-loop-i l =
    record {
      size : length l.bytes ≡ 4 * length l.words;
      done : take (4 * l.i) l.bytes ≡ le_bytes (take l.i l.words);
    }
