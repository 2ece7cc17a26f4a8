use Rattle.std.proofs.Common.{subst, sym, ◌∙◌}
use Rattle.aead_ciphers_base.specs.Aes.{aes}
use Rattle.aead_ciphers_wide.specs.ExpandedKey.{bytes_of}
use Rattle.aead_ciphers_wide.specs.Pieces.{HasSealed}
use Rattle.deerlapse.proofs.pieces.deerlapse_key_finish.Goals as goal

pub returns-clause-tag : goal.returns-clause-tag
returns-clause-tag c = λ nonce aad text ciphertext at is.
    c.copy_from_slice.ensures.after ∙ c.as_ref.ensures
    ∙ c.finish.ensures nonce aad text ciphertext
    (subst (HasSealed (aes (bytes_of c.args.key.now)) nonce aad text ciphertext) (sym c.replace-state.ensures.value) at)
