use Rattle.std.proofs.Common.{◌≡◌, ℕ, ◌+◌, ◌-◌, ◌<◌, ◌≤◌, ◌%◌, ◌++◌, length, take, drop, arith, ap}
use Rattle.aead_ciphers_wide.proofs.PieceLemmas.{seals_full, seals_open}
use Rattle.aead_ciphers_wide.specs.declared.aes.ctr32.TheConstants.{BATCH_LEN}
use Rattle.aead_ciphers_wide.proofs.aes_gcm.pieces.SealState.seal_in_batch.Goals as goal

-- the length of the piece, as the code computes it
left : (n many : ℕ) → n + many - n ≡ many
left n many = omega arith

-- a batch that isn't full
not_full : {n : ℕ} → n ≤ BATCH_LEN → (n ≡ BATCH_LEN → ⊥) → n < BATCH_LEN
not_full room other = omega arith

pub returns-then-end-eq-BATCH_LEN : goal.returns-then-end-eq-BATCH_LEN
returns-then-end-eq-BATCH_LEN g c =
    let n = c.args.self.now.len % BATCH_LEN in
    let batch = c.next_batch-self.result in
    seals_full (g.A.EncryptBlock.cipher c.args.aes.now) c.args.self.now c.args.in_out.now c.xor_assign_at_start.new.a batch _ (left n _)
    c.requires.room c.requires.len c.xor_assign_at_start.auto.a (omega arith)
    c.next_batch-self.ensures.made c.next_batch-self.ensures.kept c.xor_assign_at_start.ensures
    (ap (λ u. take n batch ++ (u ++ drop (n + length c.args.in_out.now - n) (drop n batch))) c.copy_from_slice.ensures.after)
    _ c.if-end-eq-BATCH_LEN.true c.requires.subkey c.absorb-self.ensures

pub returns-else-end-eq-BATCH_LEN : goal.returns-else-end-eq-BATCH_LEN
returns-else-end-eq-BATCH_LEN g c =
    let n = c.args.self.now.len % BATCH_LEN in
    let batch = c.next_batch-self.result in
    seals_open (g.A.EncryptBlock.cipher c.args.aes.now) c.args.self.now c.args.in_out.now c.xor_assign_at_start.new.a batch _ (left n _)
    c.requires.room c.requires.len c.xor_assign_at_start.auto.a (omega arith)
    c.next_batch-self.ensures.made c.next_batch-self.ensures.kept c.xor_assign_at_start.ensures
    (ap (λ u. take n batch ++ (u ++ drop (n + length c.args.in_out.now - n) (drop n batch))) c.copy_from_slice.ensures.after)
    (not_full c.requires.room c.if-end-eq-BATCH_LEN.false)
