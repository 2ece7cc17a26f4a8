use Rattle.std.proofs.Common.{◌++◌, ap, ap₂, ◌∙◌}
use Rattle.sealed_file.specs.Derivation.{commitment}
use Rattle.xaes.specs.Derivation.{derived_key}
use Rattle.sealed_file.specs.Format.{magic_and_version, secret_of, fresh_key}
use Rattle.sealed_file.proofs
use proofs.ChunkLemmas.{same_key}
use proofs.header.ChunkCipher.new.Goals as goal

pub returns-clause-made : goal.returns-clause-made
unfolding fresh_key
returns-clause-made c =
    let context_is = c.context_of-context.ensures in
    let commitment_is = c.commitment.ensures ∙ ap₂ commitment c.xaes-xaes.ensures context_is in
    let key_is = c.aead_key.ensures ∙ c.derived_key.ensures ∙ ap₂ derived_key c.xaes-xaes.ensures context_is in
    let header_is = c.header_with-header.ensures
    ∙ ap (λ l. magic_and_version c.args.version ++ (c.as_bytes-random.result.now ++ l)) commitment_is in
    same_key key_is c.prefix_of.ensures header_is (c.new.ensures ∙ ap (λ l. l ++ c.args.aad.now) header_is)
    ∙ ap (fresh_key (secret_of c.args.version c.args.key.now c.args.aad.now)) c.as_bytes-random.ensures
