use Rattle.std.proofs.Common.{[], ◌∷◌, ◌++◌, sym, ◌∙◌, append_assoc}
use Rattle.key_derivation.specs.Hkdf.{hkdf_block}
use Rattle.key_derivation.specs.Hmac.{inner_block}
use Rattle.key_derivation.specs.HmacState.{joined_pieces}
use Rattle.key_derivation.proofs.BlockLemmas.{one_block}
use Rattle.key_derivation.proofs.HashLemmas.{held_as, next_block, length-hkdf_block}
use Rattle.key_derivation.proofs.hkdf.Expander.expand_block.Goals as goal

pub returns : goal.returns
unfolding hkdf_block
returns g c = λ prk made.
    let h = g.H.Hash.function in
    let laws = g.met.H.Hash in
    let l = g.H.Hash.OUTPUT_LEN in
    let info = joined_pieces c.args.info.now in
    let absorbed = held_as g.H.Digest.holds _ _ (inner_block h prk ++ (info ++ 1 ∷ []))
    (c.update.ensures _ (c.update_all-hasher.ensures _ (c.start.ensures prk made))) (append_assoc (inner_block h prk) info (1 ∷ [])) in
    next_block h prk info _ 0 (c.finish.ensures prk _ made absorbed)
    ∙ sym (one_block (hkdf_block h prk info) l h.output_len (length-hkdf_block h l laws.digest_len prk info) laws.some_output laws.output_len)
