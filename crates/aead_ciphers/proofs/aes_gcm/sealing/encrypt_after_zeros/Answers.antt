use Rattle.std.proofs.Common.{◌≡◌, ℕ, ◌+◌, ◌-◌, ◌*◌, ◌%◌, ◌/◌, ◌≤◌, ap, subst, sym, refl, ◌∙◌, arith, length}
use Rattle.aead_ciphers_base.specs.CounterMode.{counter_mode}
use Rattle.aead_ciphers_base.specs.Work.{Adds, CanAdd}
use Rattle.aead_ciphers_base.proofs.CounterLemmas.{length-counter_block}
use Rattle.aead_ciphers.specs.Gcm.{sealing_blocks}
use Rattle.aead_ciphers.proofs
use proofs.CounterModePieces.{short_message, put_length}
use proofs.SealedChunks.{chunk_length}
use proofs.aes_gcm.sealing.encrypt_after_zeros.Goals as goal

-- the blocks of zeros and of n bytes
room : (n size : ℕ) → size ≡ sealing_blocks n * 16 → 16 + n ≤ size
room n size is = omega arith

first : (n size : ℕ) → size ≡ sealing_blocks n * 16 → 16 + 0 ≤ size
first n size is = omega arith

whole : (n size : ℕ) → size ≡ sealing_blocks n * 16 → (size - 0) % 16 ≡ 0
whole n size is = omega arith

count : (n size : ℕ) → size ≡ sealing_blocks n * 16 → (size - 0) / 16 ≡ sealing_blocks n
count n size is = omega arith

pub copy_from_slice-requires : goal.copy_from_slice-requires
copy_from_slice-requires g c =
    let n = length c.args.in_out.now in
    chunk_length 16 n _ c.args.text.now (room n _ c.requires.room) refl

pub encrypt_blocks-requires-clause-whole : goal.encrypt_blocks-requires-clause-whole
encrypt_blocks-requires-clause-whole g c =
    let n = length c.args.in_out.now in
    let same = put_length 16 (16 + n - 16) c.args.text.now c.copy_from_slice.new.self c.copy_from_slice.auto.self in
    whole n _ (same ∙ c.requires.room)

pub encrypt_blocks-requires-clause-sums : goal.encrypt_blocks-requires-clause-sums
encrypt_blocks-requires-clause-sums g c =
    let n = length c.args.in_out.now in
    let same = put_length 16 (16 + n - 16) c.args.text.now c.copy_from_slice.new.self c.copy_from_slice.auto.self in
    subst (λ b. CanAdd c.args.work.now b 0) (sym (count n _ (same ∙ c.requires.room))) c.requires.sums

pub returns-clause-worked : goal.returns-clause-worked
returns-clause-worked g c =
    let n = length c.args.in_out.now in
    let same = put_length 16 (16 + n - 16) c.args.text.now c.copy_from_slice.new.self c.copy_from_slice.auto.self in
    subst (λ b. Adds c.args.work.now c.encrypt_blocks.new.work b 0) (count n _ (same ∙ c.requires.room)) c.encrypt_blocks.ensures.worked

pub copy_from_slice-requires-2 : goal.copy_from_slice-requires-2
copy_from_slice-requires-2 g c =
    let n = length c.args.in_out.now in
    let same = c.encrypt_blocks.auto.in_out ∙ put_length 16 (16 + n - 16) c.args.text.now c.copy_from_slice.new.self c.copy_from_slice.auto.self in
    sym (chunk_length 16 n _ _ (room n _ c.requires.room) same)

pub copy_from_slice-requires-3 : goal.copy_from_slice-requires-3
copy_from_slice-requires-3 g c =
    let n = length c.args.in_out.now in
    let same = c.encrypt_blocks.auto.in_out ∙ put_length 16 (16 + n - 16) c.args.text.now c.copy_from_slice.new.self c.copy_from_slice.auto.self in
    sym (chunk_length 0 16 _ _ (first n _ c.requires.room) same)

pub returns-clause-ciphertext : goal.returns-clause-ciphertext
returns-clause-ciphertext g c =
    let cipher = g.A.EncryptBlock.cipher c.args.aes.now in
    let size = g.met.A.EncryptBlock.length_cipher c.args.aes.now _ (length-counter_block c.args.nonce 1 c.one.ensures.size) in
    let copied = c.copy_from_slice.ensures.after in
    c.copy_from_slice-2.ensures.after
    ∙ (short_message cipher c.args.nonce _ _ c.copy_from_slice.new.self _ _ size c.requires.zeros
    (omega (arith, ap length copied)) (c.encrypt_blocks.ensures.output c.args.nonce 1 c.one.ensures)).1
    ∙ ap (counter_mode cipher c.args.nonce 2) copied

pub returns-clause-mask : goal.returns-clause-mask
returns-clause-mask g c =
    let size = g.met.A.EncryptBlock.length_cipher c.args.aes.now _ (length-counter_block c.args.nonce 1 c.one.ensures.size) in
    let copied = c.copy_from_slice.ensures.after in
    c.copy_from_slice-3.ensures.after
    ∙ (short_message (g.A.EncryptBlock.cipher c.args.aes.now) c.args.nonce (length c.args.in_out.now) _ c.copy_from_slice.new.self _ _ size
    c.requires.zeros (omega (arith, ap length copied)) (c.encrypt_blocks.ensures.output c.args.nonce 1 c.one.ensures)).0
