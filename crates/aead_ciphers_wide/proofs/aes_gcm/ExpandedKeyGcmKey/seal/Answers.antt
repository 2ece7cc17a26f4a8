use Rattle.std.proofs.Common.{◌≡◌, IfOk, subst}
use Rattle.aead_ciphers_base.specs.Values.{aad_bytes}
use Rattle.aead_ciphers_base.specs.Aes.{aes}
use Rattle.aead_ciphers.specs.Gcm.{gcm_tag}
use Rattle.aead_ciphers_wide.proofs.aes_gcm.ExpandedKeyGcmKey.seal.Goals as goal

pub returns-clause-tag : goal.returns-clause-tag
returns-clause-tag c =
    let a = c.args in
    subst (λ key. IfOk c.seal_with.result (λ t. t ≡ gcm_tag (aes key) a.nonce (aad_bytes a.aad) c.seal_with.new.in_out))
    c.aes-aes.ensures c.seal_with.ensures.tag
