use Rattle.std.proofs.Common.{◌+◌, ◌-◌, ◌++◌, length, take, drop, ap, arith}
use Rattle.aead_ciphers_wide.proofs.PieceLemmas.{takes_full}
use Rattle.aead_ciphers_wide.proofs.aes_gcm.pieces.PartialHash.update_within_batch.Goals as goal

pub returns-then-end-eq-BATCH_LEN-clause-taken : goal.returns-then-end-eq-BATCH_LEN-clause-taken
returns-then-end-eq-BATCH_LEN-clause-taken g c before at =
    let s = c.args.self.now in
    let bytes = c.args.bytes.now in
    let n = s.len + length bytes - s.len in
    takes_full (g.G.UpdateBlock.hash_subkey c.args.gcm.now) before bytes _ _ s n _ (omega arith) (omega arith)
    (omega arith) (omega arith) (ap (λ u. take s.len s.batch ++ (u ++ drop n (drop s.len s.batch))) c.copy_from_slice.ensures.after)
    c.absorb-self.ensures at
