use Rattle.std.proofs.Common.{length, ap, refl, arith}
use Rattle.aead_ciphers_base.proofs.BlocksLemmas.{length_blocks}
use Rattle.aead_ciphers.specs.Multiples.{entry}
use Rattle.aead_ciphers.proofs
use proofs.RunningHash.{hash_one, front_more}
use proofs.gcm.KeyRefUpdateBlocks.update_blocks.Goals as goal

pub add_product-requires : goal.add_product-requires
add_product-requires c =
    let more = ap length c.in-Some.ensures.steps in
    let count = length_blocks 16 c.args.input.items.now in
    (omega arith, omega arith)

pub loop-block-preserved : goal.loop-block-preserved
loop-block-preserved c =
    let more = ap length c.in-Some.ensures.steps in
    record {
      no_block = omega arith;
      products = omega arith;
      hashed = λ done at.
          front_more c.args.self.now c.in-Some.block.now _ _ _ _ _ c.in-Some.ensures.steps
          (λ front was. hash_one c.args.self.now _ c.in-Some.block.now (entry c.self.inside.multiples.now 0) c.loop-block.sum c.number_of_block.result
          c.product-sum.result front c.self.view_is refl c.number_of_block.ensures c.product-sum.ensures was)
          (c.loop-block.invariant.hashed done at);
    }

pub returns-clause-worked : goal.returns-clause-worked
returns-clause-worked c =
    let none = ap length c.in-None.ensures.steps.0 in
    let count = length_blocks 16 c.args.input.items.now in
    (omega arith, omega arith)
