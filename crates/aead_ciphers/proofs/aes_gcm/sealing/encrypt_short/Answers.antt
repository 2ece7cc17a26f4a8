use Rattle.std.proofs.Common.{◌≡◌, ℕ, ◌+◌, ◌*◌, List, take, length, replicate, arith}
use Rattle.std.specs.Int.{div_ceil}
use Rattle.std.proofs.lemmas.List.{take-take}
use Rattle.aead_ciphers.specs.declared.aes_gcm.counter_mode.TheConstants.{BATCH_LEN, FEW_LEN}
use Rattle.aead_ciphers.proofs.aes_gcm.sealing.encrypt_short.Goals as goal

-- the first of the blocks
first : (n q : ℕ) (xs : List ℕ) → q ≡ div_ceil (16 + n) 16 → take 16 (take (q * 16) xs) ≡ take 16 xs
first n q xs is = take-take 16 (q * 16) xs (omega arith)

pub encrypt_after_zeros-requires-clause-zeros : goal.encrypt_after_zeros-requires-clause-zeros
encrypt_after_zeros-requires-clause-zeros g c =
    first (length c.args.in_out.now) c.div_ceil-whole.result (replicate FEW_LEN 0) c.div_ceil-whole.ensures

pub encrypt_after_zeros-requires-else-whole-le-FEW_LEN-clause-zeros : goal.encrypt_after_zeros-requires-else-whole-le-FEW_LEN-clause-zeros
encrypt_after_zeros-requires-else-whole-le-FEW_LEN-clause-zeros g c =
    first (length c.args.in_out.now) c.div_ceil-whole.result (replicate BATCH_LEN 0) c.div_ceil-whole.ensures
