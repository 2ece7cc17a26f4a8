use Rattle.std.proofs.lemmas.Bool.Decides.{nat_tests}
use Rattle.std.proofs.Common.{◌≡◌, ◌<◌, [], ◌∷◌, ◌++◌, length, arith, ap, ◌∙◌, sym, subst, refl, append-nil}
use Rattle.aead_ciphers.specs
use specs.Blocks.{blocks}
use specs.HashOf.{IsHashOf}
use Rattle.aead_ciphers.proofs
use proofs.PaddedBlocks.{padded_blocks_none, padded_blocks_short}
use proofs.RunningHash.{hash_with, whole_and_rest}
use proofs.gcm.padding.absorb.Goals as goal

pub returns-then-not-is_empty-clause-hashed : goal.returns-then-not-is_empty-clause-hashed
returns-then-not-is_empty-clause-hashed g c = λ done at.
    let whole = c.as_chunks.result.0.items.now in
    let rest = c.as_chunks.result.1.now in
    let tested = c.if-not-is_empty.ensures in
    let some : 0 < length rest = grind (arith, nat_tests) in
    hash_with refl
    (ap (λ b. (done ++ blocks 16 whole) ++ b ∷ []) c.padded.ensures
    ∙ ap (λ bs. (done ++ blocks 16 whole) ++ bs) (sym (padded_blocks_short rest some (omega arith)))
    ∙ whole_and_rest done c.args.input.now whole rest c.as_chunks.ensures.whole c.as_chunks.ensures.rest)
    c.update_block.ensures.hashed (c.update_blocks.ensures.hashed done at)

-- nothing is left over
pub returns-else-not-is_empty-clause-hashed : goal.returns-else-not-is_empty-clause-hashed
returns-else-not-is_empty-clause-hashed g c = λ done at.
    let whole = c.as_chunks.result.0.items.now in
    let rest = c.as_chunks.result.1.now in
    let tested = c.if-not-is_empty.ensures in
    let none : length rest ≡ 0 = grind (arith, nat_tests) in
    let same =
    sym (append-nil (done ++ blocks 16 whole)) ∙ ap (λ u. done ++ blocks 16 whole ++ u) (sym (padded_blocks_none rest none))
    ∙ whole_and_rest done c.args.input.now whole rest c.as_chunks.ensures.whole c.as_chunks.ensures.rest in
    subst (λ bs. IsHashOf (g.G.UpdateBlock.hash_subkey c.args.gcm.now) bs c.update_blocks.new.xi) same (c.update_blocks.ensures.hashed done at)
