use Rattle.std.proofs.Common.{rules, arith, ◌+◌, ◌<◌, ◌^◌}
use Rattle.aead_ciphers.specs.Counting.{Counting, xored_nonce}
use Rattle.aead_ciphers.proofs
use proofs.SequenceLemmas.{spent_nonces-next, fresh_xored}
use proofs.aead.xored_sequence.XoredSequenceNonceSequence.advance.Goals as goal

pub returns-clause-ok : goal.returns-clause-ok
returns-clause-ok c =
    let s = c.self.inside in
    let now : Counting = record { fixed = s.iv; first = s.first; count = s.count; used = s.used } in
    let small : s.first + s.used < 2 ^ 64 = omega (arith, c.self.invariant.1, c.if-self.false) in
    rw (← c.self.view_is) (record {
      size = search rules;
      bytes = search rules;
      open_before = search rules;
      fresh = rw c.nonce_of-nonce.ensures (fresh_xored now c.self.invariant.2 small);
      appended = rw c.nonce_of-nonce.ensures (spent_nonces-next xored_nonce now);
    })
