use Rattle.std.proofs.Common.{◌≡◌, ℕ, ◌+◌, ◌-◌, ◌*◌, ◌/◌, ◌%◌, ◌≤◌, arith}
use Rattle.aead_ciphers_wide.proofs.aes.ctr32.encrypt_batch.Goals as goal

-- the length of whole blocks from `start` on
whole_blocks : (start size : ℕ) → start ≤ size → (size - start) % 16 ≡ 0 → size ≡ start + 16 * ((size - start) / 16)
whole_blocks start size within whole = omega arith

pub encrypt_few-requires-clause-within : goal.encrypt_few-requires-clause-within
encrypt_few-requires-clause-within c = whole_blocks c.args.start _ c.requires.within c.requires.whole

pub encrypt_up_to_eight-requires-clause-within : goal.encrypt_up_to_eight-requires-clause-within
encrypt_up_to_eight-requires-clause-within c = whole_blocks c.args.start _ c.requires.within c.requires.whole

pub encrypt_up_to_sixteen-requires-clause-within : goal.encrypt_up_to_sixteen-requires-clause-within
encrypt_up_to_sixteen-requires-clause-within c = whole_blocks c.args.start _ c.requires.within c.requires.whole
