use Rattle.std.proofs.Common.{◌≡◌, ◌*◌, ◌++◌, length, take, drop}
use Rattle.aead_ciphers_base.specs.ChaCha20.{le_words}
use Rattle.aead_ciphers_base.proofs.chacha.le_words.Given as goal

abbrev pub invariant-loop-i : goal.invariant-loop-i
invariant-loop-i g l =
    record {
      size : length l.words ≡ g.row.N;
      read : le_words l.bytes ≡ take l.i l.words ++ le_words (drop (4 * l.i) l.bytes);
    }
