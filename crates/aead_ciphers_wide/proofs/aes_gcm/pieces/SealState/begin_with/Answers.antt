use Rattle.std.proofs.Common.{refl, arith, subst, ap, length}
use Rattle.aead_ciphers_base.specs.Values.{aad_bytes}
use Rattle.aead_ciphers.specs.Gcm.{padded_blocks}
use Rattle.aead_ciphers.specs.HashOf.{IsHashOf}
use Rattle.aead_ciphers_wide.proofs.PieceLemmas.{begins, hash_of_part}
use Rattle.aead_ciphers_wide.proofs.aes_gcm.pieces.SealState.begin_with.Goals as goal

pub returns-clause-begun : goal.returns-clause-begun
returns-clause-begun g c = λ cipher subkey.
    let same = c.as_ref-aad.ensures in
    begins cipher c.args.nonce (aad_bytes c.args.aad) _ c.as_ref.ensures (ap length same) refl refl (omega (arith, ap length same)) subkey
    (subst (λ part. IsHashOf (g.G.UpdateBlock.hash_subkey c.args.gcm.now) (padded_blocks part) c.absorb.result) same
    (hash_of_part _ c.as_ref-aad.result.now _ c.absorb.ensures))
