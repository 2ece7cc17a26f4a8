use Rattle.std.proofs.Common.{◌≡◌, ℕ, ◌<◌, ◌∷◌, [], ap, length, refl, rules, slice_index, subst, sym, ◌∙◌}
use Rattle.std.proofs.lemmas.List.{get_or_default}
use Rattle.aead_ciphers_base.specs.Bytes.{◌⊕◌}
use Rattle.aead_ciphers.specs.Ghash.{◌•◌, IsBlock, unit_block}
use Rattle.aead_ciphers.proofs.GhashLaws.{AllSized-append, ghash_more, product_unit}
use Rattle.aead_ciphers_tests.proofs.tests.other_cipher.XorOfBlocksUpdateBlock.update_block.Goals as goal

pub returns-clause-hashed : goal.returns-clause-hashed
returns-clause-hashed c = λ done at.
    let block = c.args.block in
    let size : length block ≡ 16 = search rules in
    let sum = c.xor_16-sum.result in
    let is_sum = c.xor_16-sum.ensures ∙ ap (λ xi. xi ⊕ block) (c.as_ref.ensures ∙ sym at.value) in
    let small : (k : ℕ) → k < length sum → slice_index sum k < 256 = search rules in
    let is_block : IsBlock sum = record { size = search rules; bytes = λ k d lt. subst (λ byte. byte < 256) (get_or_default sum k 0 d lt) (small k lt) } in
    record {
      sized = AllSized-append done (block ∷ []) at.sized (size, tt);
      value =
          ghash_more unit_block done block refl at.sized size
          ∙ ap (λ x. x • unit_block) (sym is_sum) ∙ product_unit sum is_block ∙ sym c.set.ensures;
    }
