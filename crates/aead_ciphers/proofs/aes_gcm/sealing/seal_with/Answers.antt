use Rattle.std.proofs.Common.{◌+◌, length, ap, ◌∙◌, subst, sym, refl, rules, add-zero, zero-le, le_trans}
use Rattle.aead_ciphers_base.specs
use specs.CounterMode.{counter_mode}
use specs.Values.{aad_bytes}
use Rattle.aead_ciphers_base.proofs.CounterModeLemmas.{length-counter_mode, walked_none}
use Rattle.aead_ciphers.specs.HashOf.{Absorbs}
use Rattle.aead_ciphers.proofs
use proofs.CounterModePieces.{all_encrypted}
use proofs.RunningHash.{absorbs_none, tag_found}
use proofs.SealedChunks.{chunk_whole, chunk_length, rest_length, chunk_counted, left_short, left_short_end, left_chunk, left_chunk_hash, left_rest, left_rest_hash, walked_chunk, rest_encrypted, walk_whole, hashed_piece, hashed_rest, hashed_whole}
use proofs.aes_gcm.sealing.seal_with.Goals as goal
use proofs.aes_gcm.sealing.seal_with.Goals.{then-whole-in_out, else-whole-in_out}

pub loop-done-init : goal.loop-done-init
loop-done-init g c = record {
  worked = (sym (add-zero _), sym (add-zero _));
  within = zero-le;
  walk = walked_none _ _ 0 _;
  hashed = λ nonce k at. absorbs_none _;
}

pub loop-done-preserved : goal.loop-done-preserved
loop-done-preserved g c =
    let was = c.args.in_out.now in
    let d = c.loop-done.done in
    let n = c.min-count.result in
    let xs = c.loop-done.in_out in
    let chunk = c.encrypt_blocks.new.in_out in
    let inv = c.loop-done.invariant in
    let cipher = g.A.EncryptBlock.cipher c.args.aes.now in
    let whole = chunk_whole c.whole_len-whole.result d n c.min-count.ensures inv.within c.whole_len-whole.ensures.aligned inv.walk.aligned in
    let room = le_trans whole.1 c.whole_len-whole.ensures.within in
    let size = c.encrypt_blocks.auto.in_out in
    let walk = walked_chunk {cipher = cipher} d n was xs chunk room whole.0 size inv.walk c.encrypt_blocks.ensures.output c.encrypt_blocks.ensures.counter in
    let long = chunk_length d n _ xs room inv.walk.size in
    record {
      worked =
          chunk_counted c.of_fitting-auth.new.work c.loop-done.work c.encrypt_blocks.new.work c.absorb-in-loop-done.new.work d n _ _
          inv.walk.aligned whole.0 long size
          inv.worked c.encrypt_blocks.ensures.worked c.absorb-in-loop-done.ensures.worked;
      within = whole.1;
      walk = walk;
      hashed = λ nonce k at.
          hashed_piece cipher nonce k d n (d + n) was xs chunk _ inv.walk.aligned refl room inv.walk.size (size ∙ long) walk.output at (inv.hashed nonce k at)
          c.absorb-in-loop-done.ensures.hashed;
    }

pub encrypt_blocks-requires-clause-sums : goal.encrypt_blocks-requires-clause-sums
encrypt_blocks-requires-clause-sums g c =
    let was = c.args.in_out.now in
    let d = c.loop-done.done in
    let n = c.min-count.result in
    let inv = c.loop-done.invariant in
    let whole = chunk_whole c.whole_len-whole.result d n c.min-count.ensures inv.within c.whole_len-whole.ensures.aligned inv.walk.aligned in
    let room = le_trans whole.1 c.whole_len-whole.ensures.within in
    left_chunk c.args.work.now c.of_fitting-auth.new.work (length (aad_bytes c.args.aad)) (length was) (c.requires.sums (search rules))
    c.of_fitting-auth.ensures.worked c.loop-done.work d n _ inv.walk.aligned room (chunk_length d n _ c.loop-done.in_out room inv.walk.size) inv.worked

pub absorb-requires-in-loop-done : goal.absorb-requires-in-loop-done
absorb-requires-in-loop-done g c =
    let was = c.args.in_out.now in
    let d = c.loop-done.done in
    let n = c.min-count.result in
    let inv = c.loop-done.invariant in
    let whole = chunk_whole c.whole_len-whole.result d n c.min-count.ensures inv.within c.whole_len-whole.ensures.aligned inv.walk.aligned in
    let room = le_trans whole.1 c.whole_len-whole.ensures.within in
    left_chunk_hash c.args.work.now c.of_fitting-auth.new.work (length (aad_bytes c.args.aad)) (length was) (c.requires.sums (search rules))
    c.of_fitting-auth.ensures.worked c.loop-done.work c.encrypt_blocks.new.work d n _ _ inv.walk.aligned whole.0 room
    (chunk_length d n _ c.loop-done.in_out room inv.walk.size) c.encrypt_blocks.auto.in_out inv.worked c.encrypt_blocks.ensures.worked

pub encrypt_rest-requires-clause-sums : goal.encrypt_rest-requires-clause-sums
encrypt_rest-requires-clause-sums g c =
    let was = c.args.in_out.now in
    let d = c.whole_len-whole.result in
    let inv = c.loop-done.invariant in
    left_rest c.args.work.now c.of_fitting-auth.new.work (length (aad_bytes c.args.aad)) (length was) (c.requires.sums (search rules))
    c.of_fitting-auth.ensures.worked c.loop-done.work c.loop-done.done d _ inv.walk.aligned inv.within c.loop-done-test.false c.whole_len-whole.ensures.within
    (rest_length d _ c.loop-done.in_out inv.walk.size) inv.worked

pub absorb-requires-then-whole-in_out : goal.absorb-requires-then-whole-in_out
absorb-requires-then-whole-in_out g c =
    let was = c.args.in_out.now in
    let d = c.whole_len-whole.result in
    let inv = c.loop-done.invariant in
    left_rest_hash c.args.work.now c.of_fitting-auth.new.work (length (aad_bytes c.args.aad)) (length was) (c.requires.sums (search rules))
    c.of_fitting-auth.ensures.worked c.loop-done.work c.encrypt_rest.new.work c.loop-done.done d _ _ inv.walk.aligned inv.within c.loop-done-test.false
    c.whole_len-whole.ensures.within (rest_length d _ c.loop-done.in_out inv.walk.size) c.encrypt_rest.auto.in_out inv.worked c.encrypt_rest.ensures.worked

pub returns-clause-ciphertext : goal.returns-clause-ciphertext
returns-clause-ciphertext g c =
    let was = c.args.in_out.now in
    let cipher = g.A.EncryptBlock.cipher c.args.aes.now in
    let d = c.whole_len-whole.result in
    let fits = c.whole_len-whole.ensures.within in
    let xs = c.loop-done.in_out in
    let inv = c.loop-done.invariant in
    let at = c.increment-tag_iv.ensures.counter c.args.nonce 1 c.one-counter.ensures in
    elim c.if-whole-in_out.branch [
      | then-whole-in_out w ↦
          w.in_out-is
          ∙ all_encrypted cipher c.args.nonce 2 (length was) was _ refl
          (rest_encrypted c.loop-done.done d was xs w.encrypt_rest.new.in_out inv.within c.loop-done-test.false fits inv.walk
          w.encrypt_rest.ensures.output) at
      | else-whole-in_out w ↦
          w.in_out-is ∙ all_encrypted cipher c.args.nonce 2 c.loop-done.done was _
          (walk_whole c.loop-done.done d _ _ inv.within c.loop-done-test.false fits w.if-whole-in_out.false inv.walk.size) inv.walk.output at
    ]

pub returns-clause-tag : goal.returns-clause-tag
returns-clause-tag g c =
    let was = c.args.in_out.now in
    let nonce = c.args.nonce in
    let cipher = g.A.EncryptBlock.cipher c.args.aes.now in
    let out = counter_mode cipher nonce 2 was in
    let long = length-counter_mode cipher nonce 2 was in
    let is = returns-clause-ciphertext g c in
    let started = c.of_fitting-auth.result in
    let made = c.of_fitting-auth.ensures in
    let d = c.whole_len-whole.result in
    let fits = c.whole_len-whole.ensures.within in
    let xs = c.loop-done.in_out in
    let inv = c.loop-done.invariant in
    let at = c.increment-tag_iv.ensures.counter nonce 1 c.one-counter.ensures in
    let taken = inv.hashed nonce 2 at in
    let absorbed : Absorbs started out c.if-whole-in_out.auth = elim c.if-whole-in_out.branch [
      | then-whole-in_out w ↦
          subst (Absorbs started out) (sym w.auth-is)
          (hashed_rest cipher nonce 2 c.loop-done.done d was xs w.encrypt_rest.new.in_out inv.within c.loop-done-test.false fits w.encrypt_rest.auto.in_out
          inv.walk w.encrypt_rest.ensures.output at taken w.absorb-then-whole-in_out.ensures.hashed)
      | else-whole-in_out w ↦
          subst (Absorbs started out) (sym w.auth-is)
          (hashed_whole cipher nonce 2 c.loop-done.done was
          (walk_whole c.loop-done.done d _ _ inv.within c.loop-done-test.false fits w.if-whole-in_out.false inv.walk.size) taken)
    ] in
    tag_found cipher nonce (aad_bytes c.args.aad) c.if-whole-in_out.in_out (made.hash_subkey ∙ c.requires.subkey) made.aad_len
    (made.in_out_len ∙ sym (ap length is ∙ long))
    (c.encrypt_block-mask.ensures.value ∙ ap cipher (c.into_block_less_safe.ensures ∙ c.increment-tag_iv.ensures.iv ∙ c.one-counter.ensures.value)) made.hashed
    (subst (λ x. Absorbs started x c.if-whole-in_out.auth) (sym is) absorbed) c.finish-2.ensures.tag

-- a short message
pub absorb-requires : goal.absorb-requires
absorb-requires g c =
    left_short c.args.work.now c.of_fitting-auth.new.work (length (aad_bytes c.args.aad)) (length c.args.in_out.now)
    (c.requires.sums (search rules)) c.of_fitting-auth.ensures.worked c.encrypt_short-mask.new.work _ c.encrypt_short-mask.ensures.worked
    c.encrypt_short-mask.auto.in_out

pub finish-requires : goal.finish-requires
finish-requires g c =
    left_short_end c.args.work.now c.of_fitting-auth.new.work (length (aad_bytes c.args.aad)) (length c.args.in_out.now)
    (c.requires.sums (search rules)) c.of_fitting-auth.ensures.worked c.encrypt_short-mask.new.work c.absorb.new.work _
    c.encrypt_short-mask.ensures.worked c.absorb.ensures.worked c.encrypt_short-mask.auto.in_out

pub returns-then-in_out-le-SHORT_LEN-clause-tag : goal.returns-then-in_out-le-SHORT_LEN-clause-tag
returns-then-in_out-le-SHORT_LEN-clause-tag g c =
    let nonce = c.args.nonce in
    let cipher = g.A.EncryptBlock.cipher c.args.aes.now in
    let short = c.encrypt_short-mask.ensures in
    let made = c.of_fitting-auth.ensures in
    tag_found cipher nonce (aad_bytes c.args.aad) c.encrypt_short-mask.new.in_out (made.hash_subkey ∙ c.requires.subkey) made.aad_len
    (made.in_out_len ∙ sym (ap length short.ciphertext ∙ length-counter_mode cipher nonce 2 c.args.in_out.now))
    short.mask made.hashed c.absorb.ensures.hashed c.finish.ensures.tag
