use Rattle.std.proofs.Common.{◌≡◌, ◌+◌, ◌<◌, ◌++◌, length, take, drop, length-drop, ap, sym, subst, ◌∙◌, arith}
use Rattle.aead_ciphers_base.specs.Blocks.{blocks}
use Rattle.aead_ciphers_base.specs.Bytes.{◌⊕◌}
use Rattle.aead_ciphers.specs.Ghash.{◌•◌}
use Rattle.aead_ciphers.specs.HashOf.{IsHashOf}
use Rattle.aead_ciphers_wide.specs.Products.{subkey}
use Rattle.aead_ciphers_wide.proofs.WideHash.{IsHashOfTaken, taken_all, taken_one, taken_two}
use Rattle.aead_ciphers_wide.proofs.gcm.KeyRefUpdateBlocks.update_blocks.Goals as goal
use Rattle.aead_ciphers_wide.proofs.gcm.KeyRefUpdateBlocks.update_blocks.Goals.{in-Some-first_chunk, in_default-first_chunk}

pub loop-pair-preserved : goal.loop-pair-preserved
loop-pair-preserved c =
    let h = c.args.self.now in
    let table = c.self.inside.products.now in
    let rest = c.loop-pair.rest.now in
    let pair = c.in-Some.pair.now in
    let next = c.ghash_pair-sum.result in
    let second = take 16 (take 16 (drop 16 pair)) in
    let left : length c.in-Some.after.now + 32 ≡ length rest = c.in-Some.ensures.cases.2 in
    record {
      no_block = omega arith;
      products = omega arith;
      hashed = λ done at.
          subst (λ xs. IsHashOfTaken h done c.args.input.items.now xs next) (sym c.in-Some.ensures.cases.1)
          (taken_two h c.loop-pair.sum c.args.input.items.now rest pair table next done c.self.view_is (omega arith)
          c.in-Some.ensures.cases.0
          (c.ghash_pair-sum.ensures ∙ ap (λ x. (x • subkey table ⊕ second) • subkey table) c.add-first.ensures)
          (c.loop-pair.invariant.hashed done at));
    }

pub returns-clause-hashed : goal.returns-clause-hashed
returns-clause-hashed c = λ done at.
    let h = c.args.self.now in
    let items = c.args.input.items.now in
    let rest = c.loop-pair.rest.now in
    let sum = c.loop-pair.sum in
    let table = c.self.inside.products.now in
    let before = c.loop-pair.invariant.hashed done at in
    let few : length rest < 32 = c.in_default.ensures.cases in
    subst (λ xi. IsHashOf h (done ++ blocks 16 items) xi) (sym c.set.ensures)
    (elim c.match-first_chunk.branch [
      | in-Some-first_chunk w ↦
          let chunk = w.in-Some-first_chunk.ensures.cases in
          let next = w.product-sum.result in
          subst (λ sum. IsHashOf h (done ++ blocks 16 items) sum) (sym w.sum-is)
          (taken_all h next items (drop 16 rest) done (omega (arith, length-drop 16 rest))
          (taken_one h sum items rest table next done c.self.view_is chunk.enough
          (w.product-sum.ensures ∙ ap (λ x. x • subkey table) (w.add-last.ensures ∙ ap (λ x. sum ⊕ x) chunk.same)) before))
      | in_default-first_chunk w ↦
          subst (λ sum. IsHashOf h (done ++ blocks 16 items) sum) (sym w.sum-is)
          (taken_all h sum items rest done w.in_default-first_chunk.ensures.cases before)
    ])
