use Rattle.std.proofs.Common.{◌∙◌, ap, subst, sym}
use Rattle.aead_ciphers_base.specs.Aes.{aes}
use Rattle.aead_ciphers.specs.Gcm.{gcm_tag}
use Rattle.aead_ciphers_wide.specs.Pieces.{HasSealed}
use Rattle.aead_ciphers_wide.proofs.aes_gcm.ExpandedKey.finish.Goals as goal

pub returns : goal.returns
returns c = λ nonce aad message ciphertext at.
    c.finish_with.ensures nonce aad message ciphertext
    (subst (λ key. HasSealed (aes key) nonce aad message ciphertext c.args.state) (sym c.aes-aes.ensures) at)
    ∙ ap (λ key. gcm_tag (aes key) nonce aad ciphertext) c.aes-aes.ensures
