use Rattle.std.proofs.Common.{◌≡◌, ℕ, ◌+◌, List, ◌++◌, length}
use Rattle.aead_ciphers_base.specs.Blocks.{blocks}
use Rattle.aead_ciphers.specs.Ghash.{unit_block}
use Rattle.aead_ciphers.specs.HashOf.{IsHashOf}
use Rattle.aead_ciphers.proofs.RunningHash.{HashedFront}
use Rattle.aead_ciphers_tests.proofs.tests.other_cipher.XorOfBlocksUpdateBlocks.update_blocks.Given as goal

abbrev pub invariant-loop-block : goal.invariant-loop-block
invariant-loop-block l = record {
  no_block : l.work.blocks ≡ l.initial.work.blocks;
  products : l.work.products + length (blocks 16 l.block-iterator.items.now) ≡ l.initial.work.products + length (blocks 16 l.fn.input.items.now);
  hashed : (done : List (List ℕ)) → IsHashOf unit_block done l.initial.xi →
      HashedFront unit_block (blocks 16 l.block-iterator.items.now) (done ++ blocks 16 l.fn.input.items.now) l.xi;
}
