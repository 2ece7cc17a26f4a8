use Rattle.std.proofs.Common.{◌∙◌, sym, subst, ◌++◌, ◌∷◌, []}
use Rattle.aead_ciphers.specs
use specs.HashOf.{IsHashOf}
use specs.Multiples.{entry}
use Rattle.aead_ciphers.proofs
use proofs.RunningHash.{hash_one}
use proofs.gcm.KeyRefUpdateBlock.update_block.Goals as goal

pub returns-clause-hashed : goal.returns-clause-hashed
returns-clause-hashed c = λ done at.
    let h = c.args.self.now in
    subst (λ xi. IsHashOf h (done ++ c.args.block ∷ []) xi) (sym c.to_be_bytes-xi-inside.ensures)
    (hash_one h c.args.xi.now c.args.block (entry c.self.inside.multiples.now 0) c.number_of_block.result c.number_of_block-2.result c.product.result done
    c.self.view_is (c.number_of_block.ensures ∙ c.xi.view_is) c.number_of_block-2.ensures c.product.ensures at)
