use Rattle.std.proofs.Common.{rules, arith, ◌+◌, ◌<◌, ◌^◌}
use Rattle.aead_ciphers.specs.Counting.{Counting, prefixed_nonce}
use Rattle.aead_ciphers.proofs
use proofs.SequenceLemmas.{spent_nonces-next, fresh_prefixed}
use proofs.aead.counter_sequence.CounterSequenceNonceSequence.advance.Goals as goal

pub returns-clause-ok : goal.returns-clause-ok
returns-clause-ok c =
    let s = c.self.inside in
    let now : Counting = record { fixed = s.prefix; first = s.first; count = s.count; used = s.used } in
    let small : s.first + s.used < 2 ^ 64 = omega (arith, c.self.invariant.1, c.if-self.false) in
    rw (← c.self.view_is) (record {
      size = search rules;
      bytes = search rules;
      open_before = search rules;
      fresh = rw c.prefixed-nonce.ensures (fresh_prefixed now small);
      appended = rw c.prefixed-nonce.ensures (spent_nonces-next prefixed_nonce now);
    })
