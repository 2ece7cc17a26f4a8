use Rattle.std.proofs.Common.{◌∙◌, ap, arith}
use Rattle.aead_ciphers_base.specs.CounterMode.{counter_block}
use Rattle.aead_ciphers_wide.proofs.PieceLemmas.{ends}
use Rattle.aead_ciphers_wide.proofs.aes_gcm.pieces.SealState.finish_with.Goals as goal

pub returns : goal.returns
returns g c = λ nonce aad message ciphertext at.
    let cipher = g.A.EncryptBlock.cipher c.args.aes.now in
    ends cipher nonce aad message ciphertext c.args.self at c.requires.subkey c.absorb-xi.ensures (omega arith) c.lengths.ensures c.absorb-pre_tag.ensures
    (c.into-tag_iv.ensures ∙ c.one.ensures.value ∙ ap (λ m. counter_block m 1) c.assume_unique_for_key.ensures)
    (c.from.ensures ∙ c.encrypt_iv_xor_block.ensures.value)
