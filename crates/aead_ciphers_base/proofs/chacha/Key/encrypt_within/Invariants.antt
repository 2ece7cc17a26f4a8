use Rattle.std.proofs.Common.{◌≡◌, ◌+◌, ◌-◌, ◌*◌, ◌<◌, ◌++◌, length, take, drop}
use Rattle.aead_ciphers_base.specs.ChaCha20.{chacha20_encrypted}
use Rattle.aead_ciphers_base.proofs.chacha.Key.encrypt_within.Given as goal

abbrev pub invariant-loop-j : goal.invariant-loop-j
invariant-loop-j l =
    let done = take (64 * l.j) (drop l.start l.fn.in_out) in
    record {
      within : 64 * l.j < l.len + 64;
      written : l.in_out ≡ chacha20_encrypted l.self l.counter.number l.counter.nonce done ++ drop (length done) l.fn.in_out;
    }

abbrev pub decreases-loop-j : goal.decreases-loop-j
decreases-loop-j l = l.len - 64 * l.j
