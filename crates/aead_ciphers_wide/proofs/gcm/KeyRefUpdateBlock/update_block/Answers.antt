use Rattle.std.proofs.Common.{◌∙◌, sym, subst, ap, ◌++◌, ◌∷◌, [], arith}
use Rattle.aead_ciphers_base.specs.Bytes.{◌⊕◌}
use Rattle.aead_ciphers.specs.Ghash.{◌•◌}
use Rattle.aead_ciphers.specs.HashOf.{IsHashOf}
use Rattle.aead_ciphers_wide.specs.Products.{subkey}
use Rattle.aead_ciphers_wide.proofs.WideHash.{hash_one}
use Rattle.aead_ciphers_wide.proofs.gcm.KeyRefUpdateBlock.update_block.Goals as goal

pub returns-clause-hashed : goal.returns-clause-hashed
returns-clause-hashed c = λ done at.
    let h = c.args.self.now in
    let table = c.self.inside.products.now in
    subst (λ xi. IsHashOf h (done ++ c.args.block ∷ []) xi) (sym c.set.ensures)
    (hash_one h c.args.xi.now c.args.block table c.product.result done c.self.view_is (omega arith)
    (c.product.ensures ∙ ap (λ x. x • subkey table) (c.add-sum.ensures ∙ ap (λ x. x ⊕ c.args.block) c.as_ref.ensures)) at)
