use Rattle.std.proofs.Common.{◌++◌, ◌∙◌, ap}
use Rattle.key_derivation.specs.Hmac.{hmac, outer_block}
use Rattle.key_derivation.proofs.hmac.HmacKey.finish.Goals as goal

pub returns : goal.returns
unfolding hmac
returns g c = λ key text is_key held.
    let h = g.H.Hash.function in
    let laws = g.met.H.Hash in
    let inner = laws.digest_is _ _ (c.finalize.ensures _ held) in
    let absorbed = c.update.ensures _ (c.fork-outer.ensures _ is_key.outer) in
    laws.digest_is _ _ (c.finalize-2.ensures _ absorbed) ∙ ap (λ d. h.hash (outer_block h key ++ d)) inner
