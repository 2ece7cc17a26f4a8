use Rattle.std.proofs.Common.{length, ap, arith}
use Rattle.aead_ciphers_base.proofs.BlocksLemmas.{length_blocks}
use Rattle.aead_ciphers.specs.Ghash.{unit_block}
use Rattle.aead_ciphers.proofs.RunningHash.{front_more}
use Rattle.aead_ciphers_tests.proofs.tests.other_cipher.XorOfBlocksUpdateBlocks.update_blocks.Goals as goal

pub update_block-requires : goal.update_block-requires
update_block-requires c =
    let more = ap length c.in-Some.ensures.steps in
    let count = length_blocks 16 c.args.input.items.now in
    (omega arith, omega arith)

pub loop-block-preserved : goal.loop-block-preserved
loop-block-preserved c =
    let more = ap length c.in-Some.ensures.steps in
    record {
      no_block = omega arith;
      products = omega arith;
      hashed = λ done at.
          front_more unit_block c.in-Some.block.now _ _ _ _ _ c.in-Some.ensures.steps c.update_block.ensures.hashed
          (c.loop-block.invariant.hashed done at);
    }

pub returns-clause-worked : goal.returns-clause-worked
returns-clause-worked c =
    let none = ap length c.in-None.ensures.steps.0 in
    let count = length_blocks 16 c.args.input.items.now in
    (omega arith, omega arith)
