use Rattle.std.proofs.Common.{◌≡◌, ℕ, ◌+◌, List, ◌++◌, length}
use Rattle.std.specs.Int.{to_be_bytes, w128}
use Rattle.aead_ciphers_base.specs.Blocks.{blocks}
use Rattle.aead_ciphers.specs.HashOf.{IsHashOf}
use Rattle.aead_ciphers.proofs
use proofs.RunningHash.{HashedFront}
use proofs.gcm.KeyRefUpdateBlocks.update_blocks.Given as goal

abbrev pub invariant-loop-block : goal.invariant-loop-block
invariant-loop-block l = record {
  no_block : l.work.blocks ≡ l.initial.work.blocks;
  products : l.work.products + length (blocks 16 l.block-iterator.items.now) ≡ l.initial.work.products + length (blocks 16 l.fn.input.items.now);
  hashed : (done : List (List ℕ)) → IsHashOf l.self done l.fn.xi →
      HashedFront l.self (blocks 16 l.block-iterator.items.now) (done ++ blocks 16 l.fn.input.items.now) (to_be_bytes w128 l.sum);
}
