use Rattle.std.proofs.Common.{◌-◌, ap, subst, sym, ◌∙◌, length, length-drop, length-take-le, sub-le}
use Rattle.aead_ciphers_base.specs.Work.{Adds, CanAdd}
use Rattle.aead_ciphers.proofs
use proofs.CounterModePieces.{put_rest, put_length, blocks_room, blocks_whole, blocks_count}
use proofs.RunningHash.{to_end}
use proofs.aes_gcm.counter_mode.encrypt_padded.Goals as goal

pub copy_from_slice-requires : goal.copy_from_slice-requires
copy_from_slice-requires g c =
    let xs = c.args.in_out.now in
    let start = c.args.start in
    let n = length xs - start in
    length-take-le n c.args.padded.now (blocks_room n _ c.requires.room) ∙ sym (ap length (to_end start xs) ∙ length-drop start xs)

pub encrypt_blocks-requires-clause-whole : goal.encrypt_blocks-requires-clause-whole
encrypt_blocks-requires-clause-whole g c =
    let n = length c.args.in_out.now - c.args.start in
    let same = put_length 0 n c.args.padded.now c.copy_from_slice.new.self c.copy_from_slice.auto.self in
    blocks_whole n _ (same ∙ c.requires.room)

pub encrypt_blocks-requires-clause-sums : goal.encrypt_blocks-requires-clause-sums
encrypt_blocks-requires-clause-sums g c =
    let n = length c.args.in_out.now - c.args.start in
    let same = put_length 0 n c.args.padded.now c.copy_from_slice.new.self c.copy_from_slice.auto.self in
    subst (λ b. CanAdd c.args.work.now b 0) (sym (blocks_count n _ (same ∙ c.requires.room))) c.requires.sums

pub copy_from_slice-requires-2 : goal.copy_from_slice-requires-2
copy_from_slice-requires-2 g c =
    let xs = c.args.in_out.now in
    let n = length xs - c.args.start in
    let same = c.encrypt_blocks.auto.in_out ∙ put_length 0 n c.args.padded.now c.copy_from_slice.new.self c.copy_from_slice.auto.self in
    length-take-le n xs (sub-le _ _) ∙ sym (length-take-le n _ (blocks_room n _ (same ∙ c.requires.room)))

pub returns-clause-worked : goal.returns-clause-worked
returns-clause-worked g c =
    let n = length c.args.in_out.now - c.args.start in
    let same = put_length 0 n c.args.padded.now c.copy_from_slice.new.self c.copy_from_slice.auto.self in
    subst (λ b. Adds c.args.work.now c.encrypt_blocks.new.work b 0) (blocks_count n _ (same ∙ c.requires.room)) c.encrypt_blocks.ensures.worked

pub returns-clause-output : goal.returns-clause-output
returns-clause-output g c = λ nonce k at.
    put_rest (g.A.EncryptBlock.cipher c.args.aes.now) nonce k c.args.start c.args.in_out.now _ _ _ _ c.requires.within
    (c.copy_from_slice.ensures.after ∙ to_end c.args.start c.args.in_out.now) (c.encrypt_blocks.ensures.output nonce k at)
    c.copy_from_slice-2.ensures.after
