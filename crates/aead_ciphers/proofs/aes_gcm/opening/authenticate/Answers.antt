use Rattle.std.proofs.Common.{◌≡◌, ◌∙◌, ap, false, is_ok, sym, refl, rules}
use Rattle.aead_ciphers_base.specs.Values.{aad_bytes}
use Rattle.aead_ciphers.proofs
use proofs.RunningHash.{tag_found}
use proofs.aes_gcm.opening.authenticate.Goals as goal

pub returns-in_err-verify_slices_are_equal-clause-accepted : goal.returns-in_err-verify_slices_are_equal-clause-accepted
returns-in_err-verify_slices_are_equal-clause-accepted g c =
    let made = c.of_fitting-auth.ensures in
    let cipher = g.A.EncryptBlock.cipher c.args.aes.now in
    let mask = c.encrypt_block-mask.ensures.value ∙ ap cipher (c.into_block_less_safe.ensures ∙ c.increment-tag_iv.ensures.iv ∙ c.one-counter.ensures.value) in
    let found = tag_found cipher c.args.nonce (aad_bytes c.args.aad) c.args.ciphertext.now
    (made.hash_subkey ∙ c.requires.subkey) made.aad_len made.in_out_len mask
    made.hashed c.absorb.ensures.hashed c.finish-tag.ensures.tag in
    let failed : is_ok c.from_residual.result ≡ false = search rules in
    rw failed (
      (λ no. absurd cc),
      λ h. let e = c.in_err-verify_slices_are_equal.ensures.1 (c.as_ref.ensures ∙ found ∙ sym h ∙ sym c.as_ref-2.ensures) in cc,
    )

pub returns-clause-accepted : goal.returns-clause-accepted
returns-clause-accepted g c =
    let made = c.of_fitting-auth.ensures in
    let cipher = g.A.EncryptBlock.cipher c.args.aes.now in
    let mask = c.encrypt_block-mask.ensures.value ∙ ap cipher (c.into_block_less_safe.ensures ∙ c.increment-tag_iv.ensures.iv ∙ c.one-counter.ensures.value) in
    let found = tag_found cipher c.args.nonce (aad_bytes c.args.aad) c.args.ciphertext.now
    (made.hash_subkey ∙ c.requires.subkey) made.aad_len made.in_out_len mask
    made.hashed c.absorb.ensures.hashed c.finish-tag.ensures.tag in
    let right = sym c.as_ref-2.ensures ∙ sym (c.in_ok-verify_slices_are_equal.ensures.0 refl) ∙ c.as_ref.ensures ∙ found in
    ((λ _. right), λ _. refl)
