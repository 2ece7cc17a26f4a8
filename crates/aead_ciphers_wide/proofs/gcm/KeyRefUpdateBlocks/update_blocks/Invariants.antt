use Rattle.std.proofs.Common.{◌≡◌, ℕ, ◌+◌, ◌/◌, List, length}
use Rattle.aead_ciphers.specs.HashOf.{IsHashOf}
use Rattle.aead_ciphers_wide.proofs.WideHash.{IsHashOfTaken}
use Rattle.aead_ciphers_wide.proofs.gcm.KeyRefUpdateBlocks.update_blocks.Given as goal

abbrev pub invariant-loop-pair : goal.invariant-loop-pair
invariant-loop-pair l = record {
  no_block : l.work.blocks ≡ l.initial.work.blocks;
  products : l.work.products + length l.rest / 16 ≡ l.initial.work.products + length l.fn.input.items.now / 16;
  hashed : (done : List (List ℕ)) → IsHashOf l.self done l.fn.xi → IsHashOfTaken l.self done l.fn.input.items.now l.rest l.sum;
}

abbrev pub decreases-loop-pair : goal.decreases-loop-pair
decreases-loop-pair l = length l.rest
